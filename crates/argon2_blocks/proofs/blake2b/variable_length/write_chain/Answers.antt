use Rattle.std.proofs.Common.{arith}
use Rattle.argon2_blocks.proofs.Hashing.{hash_chain_ends, hash_chain_first, hash_chain_more}
use Rattle.argon2_blocks.proofs.blake2b.variable_length.write_chain.Goals as goal

pub loop-i-init : goal.loop-i-init
loop-i-init c = λ input e.
    hash_chain_first c.write_half.new.out input c.args.link.now.bytes _ _ (omega (arith, c.chain_length-r.ensures)) e c.write_half.ensures.front

pub loop-i-preserved : goal.loop-i-preserved
loop-i-preserved c = λ input e.
    hash_chain_more _ c.loop-i.out c.write_half-in-loop-i.new.out c.loop-i.link.bytes c.advance.new.self.bytes _ c.loop-i.i _ (omega arith)
    (c.loop-i.invariant input e) c.advance.ensures c.write_half-in-loop-i.ensures.front

pub returns-clause-chain : goal.returns-clause-chain
returns-clause-chain c = λ input e.
    hash_chain_ends _ c.chain_length-r.result c.loop-i.i _ input c.loop-i.out c.loop-i.link.bytes c.blake2b.new.out (omega arith) c.chain_length-r.ensures
    (omega arith) (omega arith) (omega arith) (omega arith) (c.loop-i.invariant input e) c.blake2b.ensures
