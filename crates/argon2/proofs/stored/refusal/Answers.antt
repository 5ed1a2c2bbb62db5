use Rattle.std.proofs.Common.{ap, sym, ◌∙◌}
use Rattle.argon2_text.specs.declared.numbers.Numbers.{Numbers}
use Rattle.argon2_text.specs.Views.Texts.{spelled_with}
use Rattle.argon2.proofs.StoredHashes.{error_found}
use Rattle.argon2.proofs.stored.refusal.Goals as goal

pub returns : goal.returns
returns c config salt hash salt_item hash_item stored =
    let n = c.numbers-numbers.ensures salt hash salt_item hash_item in
    let used = c.config_of_numbers-config.ensures (spelled_with c.args.head.now salt hash) n in
    error_found c.first_refusal.result c.config_of_numbers-config.result config c.args.pwd_len c.numbers-numbers.result.salt_len
    c.numbers-numbers.result.hash_len salt hash c.first_refusal.ensures (ap (λ (x : Numbers). x.salt_len) n) (ap (λ (x : Numbers). x.hash_len) n)
    (used.stored.lanes ∙ sym stored.lanes) (used.stored.mem_cost ∙ sym stored.mem_cost) (used.stored.time_cost ∙ sym stored.time_cost)
    (used.stored.secret ∙ sym stored.secret) (used.stored.ad ∙ sym stored.ad)
