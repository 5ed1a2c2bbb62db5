-- Settings have no configuration if their number of the variant or of the version is unknown.
use Rattle.std.proofs.Common.{refl}
use Rattle.argon2_c.proofs.JobNumbers.{variant_of-none, variant_of-number, version_of-none, version_of-number}
use Rattle.argon2_c.proofs.settings.Settings.config.Goals as goal

pub returns-in-Err : goal.returns-in-Err
returns-in-Err c =
    let read = c.in-Err.ensures.read in
    rw (read.0, variant_of-none c.args.self.now.variant read.1) refl

pub returns-in-Err-from_u32 : goal.returns-in-Err-from_u32
returns-in-Err-from_u32 c =
    let read = c.in-Err-from_u32.ensures.read in
    let variant = variant_of-number c.in-Ok.variant c.args.self.now.variant c.in-Ok.ensures.read in
    rw (read.0, variant, version_of-none c.args.self.now.version read.1) refl

pub returns : goal.returns
returns c =
    let variant = variant_of-number c.in-Ok.variant c.args.self.now.variant c.in-Ok.ensures.read in
    let version = version_of-number c.in-Ok-from_u32.version c.args.self.now.version c.in-Ok-from_u32.ensures.read in
    rw (variant, version) refl
