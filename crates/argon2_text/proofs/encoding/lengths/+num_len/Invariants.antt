use Rattle.argon2_text.proofs.encoding.lengths.+num_len.Given as goal

abbrev pub decreases-num_len : goal.decreases-num_len
decreases-num_len l = l.number
