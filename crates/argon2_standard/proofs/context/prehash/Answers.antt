use Rattle.std.proofs.Common.{ℕ, List, ap, ◌∙◌}
use Rattle.argon2_blocks.specs.Standard.Blake2b.{blake2b}
use Rattle.argon2_standard.specs.Standard.Prehash.{prehash_of, le32}
use Rattle.argon2_standard.proofs.Settings.{inputs_fit, inputs_joined}
use Rattle.argon2_standard.proofs.context.prehash.Goals as goal

pub returns : goal.returns
unfolding prehash_of
returns c =
    let x = c.args.config.now in
    c.blake2b.ensures ∙ ap (λ (m : List ℕ). blake2b 64 m) (inputs_joined c.args.pwd.now c.args.salt.now x x.hash_length _ _ _ _ _ _ _ _ _ _
    c.u32_to_le_bytes-lanes.ensures c.u32_to_le_bytes-hash_length.ensures c.u32_to_le_bytes-mem_cost.ensures c.u32_to_le_bytes-time_cost.ensures
    (c.u32_to_le_bytes-version.ensures ∙ ap (λ (n : ℕ). le32 n) c.as_u32.ensures) (c.u32_to_le_bytes-variant.ensures ∙ ap (λ (n : ℕ). le32 n) c.as_u32-2.ensures)
    c.u32_to_le_bytes-pwd_length.ensures c.u32_to_le_bytes-salt_length.ensures c.u32_to_le_bytes-secret_length.ensures c.u32_to_le_bytes-ad_length.ensures)

pub overflow_cast-pwd : goal.overflow_cast-pwd
overflow_cast-pwd c = (inputs_fit c.args.config.now _ _ _ c.requires).0

pub overflow_cast-salt : goal.overflow_cast-salt
overflow_cast-salt c = (inputs_fit c.args.config.now _ _ _ c.requires).1.0

pub overflow_cast-config : goal.overflow_cast-config
overflow_cast-config c = (inputs_fit c.args.config.now _ _ _ c.requires).1.1.0

pub overflow_cast-config-2 : goal.overflow_cast-config-2
overflow_cast-config-2 c = (inputs_fit c.args.config.now _ _ _ c.requires).1.1.1
