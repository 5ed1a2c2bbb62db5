use Rattle.argon2_memory.proofs.AnyOrder.{every_order_agrees}
use Rattle.argon2_memory.proofs.Entries.{no_entry_reads_others, picks_hold}
use Rattle.argon2.proofs.theorems.any_order.Goals as goal

pub returns : goal.returns
returns c = record { agrees = every_order_agrees; apart = no_entry_reads_others; picks = picks_hold }
