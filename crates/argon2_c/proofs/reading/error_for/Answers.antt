-- With the given secret and data, the numbers' configuration has the same table error as the decoded configuration.
use Rattle.std.proofs.Common.{◌≡◌, false, refl, sym, true, ap, ◌∙◌}
use Rattle.argon2.specs.Standard.Limits.{is_too_costly}
use Rattle.argon2_standard.specs.Standard.Decoded.{decoded_config}
use Rattle.argon2_text.specs.declared.numbers.Numbers.{Numbers}
use Rattle.argon2.proofs.StoredHashes.{error_found}
use Rattle.argon2_c.specs.Settings.{limits_of}
use Rattle.argon2_c.proofs.reading.error_for.Goals as goal

pub returns-then-is_above : goal.returns-then-is_above
returns-then-is_above c d secret ad numbers secret_len ad_len =
    let found = rw c.of_library-most.ensures at (c.is_above.ensures d numbers) in
    let above : is_too_costly (limits_of c.args.limits.now) d ≡ true = sym found ∙ c.if-is_above.true in
    rw above refl

pub returns-in-Some : goal.returns-in-Some
returns-in-Some c d secret ad numbers secret_len ad_len =
    let found = rw c.of_library-most.ensures at (c.is_above.ensures d numbers) in
    let within : is_too_costly (limits_of c.args.limits.now) d ≡ false = sym found ∙ c.if-is_above.false in
    let used = (c.config_of_numbers-config.ensures d numbers).stored in
    let lengths = c.error_of_lengths.ensures secret ad secret_len ad_len in
    let same = error_found c.error_of_lengths.result (record c.config_of_numbers-config.result { secret = secret; ad = ad })
    (decoded_config d secret ad)
    c.args.pwd_len c.args.numbers.now.salt_len c.args.numbers.now.hash_len d.salt d.hash lengths
    (ap (λ (x : Numbers). x.salt_len) numbers) (ap (λ (x : Numbers). x.hash_len) numbers)
    used.lanes used.mem_cost used.time_cost refl refl in
    rw (within, sym same, c.in-Some.is) refl

pub returns-in-None : goal.returns-in-None
returns-in-None c d secret ad numbers secret_len ad_len =
    let found = rw c.of_library-most.ensures at (c.is_above.ensures d numbers) in
    let within : is_too_costly (limits_of c.args.limits.now) d ≡ false = sym found ∙ c.if-is_above.false in
    let used = (c.config_of_numbers-config.ensures d numbers).stored in
    let lengths = c.error_of_lengths.ensures secret ad secret_len ad_len in
    let same = error_found c.error_of_lengths.result (record c.config_of_numbers-config.result { secret = secret; ad = ad })
    (decoded_config d secret ad)
    c.args.pwd_len c.args.numbers.now.salt_len c.args.numbers.now.hash_len d.salt d.hash lengths
    (ap (λ (x : Numbers). x.salt_len) numbers) (ap (λ (x : Numbers). x.hash_len) numbers)
    used.lanes used.mem_cost used.time_cost refl refl in
    rw (within, sym same, c.in-None.is) refl
