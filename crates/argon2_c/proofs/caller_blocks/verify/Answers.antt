-- The configuration has the length of the given hash instead of the settings' `hash_length`.
use Rattle.std.proofs.Common.{sym}
use Rattle.argon2_standard.specs.Standard.Prehash.{prehash_of, setting_of}
use Rattle.argon2_standard.specs.Standard.Tag.{tag_of}
use Rattle.argon2_c.proofs.caller_blocks.verify.Goals as goal

pub returns : goal.returns
unfolding tag_of setting_of prehash_of
returns c =
    let e = c.in-Ok-context_of_hash.ensures in
    rw (sym c.in-Ok.ensures, e.accepted) (rw (e.inputs.0, e.inputs.1, e.config) at c.verify_context.ensures)
