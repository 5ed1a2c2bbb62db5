-- `lend_parts` meets its contract. The borrow checker does not follow raw pointers. So this proof
-- follows the function's MIR by hand: `walk` has one step for each statement. No statement reads or writes
-- a block. Therefore we cut the loan of the whole slice into two loans before the first statement
-- (`two_loans`). Then it is left to show that the machine computes the pointers and the lengths of these
-- two loans.
-- A comment in brackets lists what is owned at that step of the proof.
use Rattle.std.proofs.Common.{◌≡◌, ℕ, ◌+◌, ◌*◌, ◌^◌, ◌<◌, ◌≤◌, List, [], ◌∷◌, ◌++◌, length, take, drop as drop_first, refl, sym, ap, ◌∙◌, arith, length-drop, length-take-le, take-append-drop, mul-le-mul_right, w64, MutBor}
use seplogic.Ra.Ura.{Ura}
use base.Logic.{guard_i, via, SProp, ent, sep, ex, emp}
use base.Fml.{Fml, Lft, GName, Share, ftrue, flft}
use borrow.Rule.Slice.Followed.{splits}
use borrow.Table.Elements.{at, at_mul}
use contract.Monad.{fact, fact_i}
use contract.Running.{tables}
use denote.Array.{Array}
use denote.Builtin.{SliceRefMutOf, usize}
use denote.Exit.{yes, no}
use denote.Follow.{both_by, follows_both}
use denote.Plain.{uint_vals, uint_Tells}
use denote.RattleType.{RattleType, Valss}
use denote.Signature.{plain}
use denote.Slice.{MutSlice, Room, slice_val, mut_slice_vals, mut_slice_Tells}
use denote.Steps.{nothing, heard}
use denote.Struct.Declared.{shape}
use denote.Struct.Struct.{within}
use denote.Struct.Tuple.{Tuple, tuple_type}
use denote.Triple.Clauses.{Clauses}
use denote.Triple.Walked.{Stays, stay_dropped, walk_of, Goes-dropped, Goes-spent_slice}
use mir.Syntax.{int_big, named}
use mir.Val.{Fits, Val, vint, vstruct, vcons, vnil}
use prog.Memory.{Memory}
use prog.Routine.{Routine}
use prog.Wp.{Calls, Env, Loops, WpFn}
use contract.Monad.{Fun}
use types.ByLocal.{alloc_all, pass_all, free_all, look_at, look_in_at, get, get_in, sets, sets_last, env}
use types.Kit.{Go, Item, ⋆, by, ‵, raw, ◌⊛◌, some, later, at_ret, ◌$◌, ◌∵◌, !, qed, move, keep, use0, use2, split, split3, join, pick, await, now, show, updating, rewrite, fjoin, feq_i, fpack, suffices, done}
use types.Logic.{Logic, sem}
use types.Part.{whole, sub, agg}
use types.Run.{Opd, stop, fld, hop, addr, from, of_opd, bin, and_then, no_more, first, blocks, exec, returns, enter}
use Rattle.std.proofs.raw_atomic.Walks.{leaves, proved}
use Rattle.std.proofs.VecSteps.Shapes.{after}
use Rattle.argon2_blocks.specs.contracts.block.Block.{the_row}
use Rattle.argon2_blocks.specs.contracts.block.parts.lend_parts as F
use Rattle.argon2_blocks.proofs.block.parts.lend_parts.Symbol.{name as own_name}
use Rattle.argon2_blocks.proofs.block.parts.lend_parts.Statement.{statement}
use Rattle.argon2_blocks.proofs.block.parts.lend_parts.Code as code

-- a block as the contract has it, and how many bytes it has
abbrev R : RattleType
R = the_row

abbrev size : ℕ
size = 1024

-- the operand of the code that is this size
size_of_block : {M : Type 1} {𝓤 : Ura M} {𝓛 : Logic 𝓤} {Γ : List (Item 𝓤)} {E : Env 𝓤 𝓛.H} → Opd (Go {0}) 𝓛 Γ E (int_big w64 size) (vint w64 size)
size_of_block {𝓤 = 𝓤} =
    let fits : Fits w64 size = record { fits = omega arith } in
    record { go = λ post holds. via 𝓤 (post (vint w64 size)) holds (guard_i 𝓤 (Fits w64 size) (post (vint w64 size)) fits) }

-- the result takes over the loan, so the function has nothing of its parameters when it returns
abbrev stayed : Stays F.ended.signature.params F.ended.kept
stayed = (stay_dropped (SliceRefMutOf (0 ∷ []) tt (plain (λ _. R)) (λ _. tt)) no, (stay_dropped (plain (λ _. usize)) yes, (stay_dropped (plain (λ _. usize)) yes, tt)))

-- The slice `xs` is lent for the lifetime κ. It is at the offset o of the memory block b, and γ is the
-- name of its loan. A loan has a pointer, a name and the elements. The logic records the last value of
-- a loan under the loan's name. So `follows` says how one loan's value follows from those of two others.
module _ {M : Type 1} {𝓤 : Ura M} (𝓛 : Logic 𝓤) (κ : Lft) (q : Share) (b o : ℕ) (γ : GName) (xs : List (List ℕ)) (count rest : ℕ) where
  open 𝓛 use {H, A}

  abbrev Loan : RattleType
  Loan = MutSlice (named 0) κ R

  abbrev all_blocks : MutBor (List (List ℕ))
  all_blocks = record { ref_ptr = (b, o); ghost_name = γ; now = xs }

  abbrev behind : ℕ
  behind = count * size + o

  abbrev front : GName → MutBor (List (List ℕ))
  front δ = record { ref_ptr = (b, o); ghost_name = δ; now = take count xs }

  -- the offset is a parameter, since the lemma about loans counts it in another way
  abbrev back : ℕ → GName → MutBor (List (List ℕ))
  back p δ = record { ref_ptr = (b, p); ghost_name = δ; now = drop_first count xs }

  abbrev Follows : GName × GName → Fml
  Follows γs = follows_both (Array R 0) (Array R 0) (Array R 0) γ γs.0 γs.1 ◌++◌

  -- what is owned of a loan that the machine holds as a slice of offset p and count elements
  abbrev owned : MutBor (List (List ℕ)) → ℕ → ℕ → Fml
  owned r p count = Loan.own_val r (slice_val (b, p) count ∷ [])

  abbrev Two : GName × GName → SProp 𝓤
  Two γs =
      sep 𝓤 (sem 𝓛 (owned (front γs.0) o count))
      (sep 𝓤 (sem 𝓛 (owned (back behind γs.1) behind rest)) (sep 𝓤 (A.lft κ q) (sem 𝓛 (Follows γs))))

  module _ (room : Room R (length xs)) (all : count + rest ≡ length xs) where
    inside : count ≤ length xs
    inside = omega (arith, all)

    front_length : length (take count xs) ≡ count
    front_length = length-take-le count xs inside

    back_length : length (drop_first count xs) ≡ rest
    back_length = let behind_all = length-drop count xs in omega (arith, behind_all, all)

    starts : at o size (length (take count xs)) ≡ behind
    starts = at_mul o size (length (take count xs)) ∙ ap (λ k. k * size + o) front_length

    fits : (count : ℕ) → count ≤ length xs → Room R count
    fits count few =
        let bytes : count * size ≤ length xs * size = mul-le-mul_right size few in
        let words = room.0 in let bytes_fit = room.1 in
        (omega arith, omega arith)

    -- the loan of all elements becomes the loans of its two parts
    two_loans : ent 𝓤 (sep 𝓤 (sem 𝓛 (Loan.own_val all_blocks (mut_slice_vals all_blocks))) (A.lft κ q)) (H.⇛ (ex 𝓤 Two))
    unfolding both_by
    two_loans =
        let vs : List Val = mut_slice_vals all_blocks in
        qed 𝓛 (‵ (Loan.own_val all_blocks vs) ∷ ‵ (flft κ q) ∷ []) ∵ updating ! $
        rewrite ! 0 (λ (zs : List (List ℕ)). ‵ (Loan.own_val (record { ref_ptr = (b, o); ghost_name = γ; now = zs }) vs))
        (sym (take-append-drop count xs)) refl $
        use2 𝓛 (later (some (λ (γs : GName × GName). ‵ (owned (front γs.0) o (length (take count xs)))
        ⊛ ‵ (owned (back (at o size (length (take count xs))) γs.1) (at o size (length (take count xs))) (length (drop_first count xs)))
        ⊛ ‵ (flft κ q) ⊛ ‵ (Follows γs))))
        (splits 𝓛 R (named 0) κ q b o γ (take count xs) (drop_first count xs)
        (fits (length (take count xs)) (omega (arith, front_length))) (fits (length (drop_first count xs)) (omega (arith, back_length))) vs) $
        await ! tt $ pick ! (λ γs. split3 ! $
        rewrite ! 0 (λ (count : ℕ). ‵ (owned (front γs.0) o count)) front_length refl $
        rewrite ! 1 (λ (p : ℕ). ‵ (owned (back p γs.1) p (length (drop_first count xs)))) starts refl $
        rewrite ! 1 (λ (count : ℕ). ‵ (owned (back behind γs.1) behind count)) back_length refl $
        now ! $ show ! Two γs $ done !)

    -- what the machine returns: two slices, each a pointer and a length
    abbrev returned : Val
    returned = vstruct (vcons (slice_val (b, o) count) (vcons (slice_val (b, behind) rest) vnil))

    abbrev Pair : RattleType
    Pair = Tuple (Loan ∷ Loan ∷ [])

    paired : (γs : GName × GName)
        → ent 𝓤 (sep 𝓤 (sem 𝓛 (owned (front γs.0) o count)) (sem 𝓛 (owned (back behind γs.1) behind rest)))
        (sem 𝓛 (Pair.own_val (front γs.0, back behind γs.1) (returned ∷ [])))
    paired γs =
        qed 𝓛 (‵ (owned (front γs.0) o count) ∷ ‵ (owned (back behind γs.1) behind rest) ∷ []) ∵
        nothing ! $ move ! (2 ∷ 0 ∷ []) $ fjoin ! $ move ! (1 ∷ 0 ∷ []) $ fjoin ! $
        feq_i ! (List Val) (returned ∷ []) (returned ∷ []) refl $ fjoin ! $
        fpack ! (Valss (Loan ∷ Loan ∷ [])) (within (shape (tuple_type (Loan ∷ Loan ∷ []))) (front γs.0, (back behind γs.1, tt)) (returned ∷ []))
        (slice_val (b, o) count ∷ [], (slice_val (b, behind) rest ∷ [], tt)) $ done !

    module _ (at_mem : Memory → SProp 𝓤) (run : Routine → Fun 𝓤) (C : Calls 𝓤 H) (Λ : Loops 𝓤 H) where
      abbrev clauses : Clauses 𝓤 F.ended
      clauses = F.clauses 𝓛 at_mem run

      abbrev bound : (walk_of 𝓛 F.ended stayed clauses).Ghost
      bound = (((κ, tt), (q, tt), tt, (all_blocks, (count, (rest, tt))), (mut_slice_vals all_blocks, (vint w64 count ∷ [], (vint w64 rest ∷ [], tt)))), tt)

      abbrev Post : Val → SProp 𝓤
      Post = (walk_of 𝓛 F.ended stayed clauses).post bound

      -- the function's end: the tokens of the lifetimes, nothing of the parameters, the result, and
      -- then the contract's clauses in their order
      exits : (γs : GName × GName)
          → ent 𝓤 (⋆ 𝓛 (‵ (Pair.own_val (front γs.0, back behind γs.1) (returned ∷ [])) ∷ (‵ (flft κ q) ⊛ ‵ (Follows γs)) ∷ ‵ ftrue ∷ [])) (Post returned)
      exits γs =
          let state = λ (φ : Type 0) (x : φ). fact_i 𝓤 φ (emp 𝓤) x in
          qed 𝓛 (‵ (Pair.own_val (front γs.0, back behind γs.1) (returned ∷ [])) ∷ (‵ (flft κ q) ⊛ ‵ (Follows γs)) ∷ ‵ ftrue ∷ []) ∵
          suffices ! _ (leaves 𝓛 F.ended stayed clauses bound returned (front γs.0, back behind γs.1) (tt, (tt, (tt, tt))) (tt, (tt, (tt, tt)))) $
          move ! (1 ∷ []) $ split ! $ move ! (0 ∷ 3 ∷ []) $ join ! $
          -- [the tokens; `Follows`; the result]
          use0 𝓛 (raw (fact 𝓤 _)) (state (length (drop_first count xs) ≡ rest) back_length) $
          use0 𝓛 (raw (fact 𝓤 _)) (state (length (take count xs) ≡ count) front_length) $
          use0 𝓛 (raw (fact 𝓤 _)) (state (drop_first count xs ≡ drop_first count xs) refl) $
          use0 𝓛 (raw (fact 𝓤 _)) (state (take count xs ≡ take count xs) refl) $
          nothing ! $ nothing ! $ fjoin ! $ nothing ! $ fjoin ! $ nothing ! $ fjoin ! $ move ! (5 ∷ 0 ∷ 7 ∷ 6 ∷ []) $ done !

      walk : count < 2 ^ 64 → rest < 2 ^ 64 → ent 𝓤 (⋆ 𝓛 (‵ (Loan.own_val all_blocks (mut_slice_vals all_blocks)) ∷ ‵ (flft κ q) ∷ ‵ ftrue ∷ []))
          (WpFn 𝓤 H C Λ code.function (slice_val (b, o) (length xs) ∷ vint w64 count ∷ vint w64 rest ∷ []) Post)
      walk count_fits rest_fits =
          let length_fits : length xs < 2 ^ 64 = room.0 in
          let bytes : count * size ≤ length xs * size = mul-le-mul_right size inside in
          let all_bytes = room.1 in
          let distance_fits : count * size < 2 ^ 64 = omega arith in
          qed 𝓛 (‵ (Loan.own_val all_blocks (mut_slice_vals all_blocks)) ∷ ‵ (flft κ q) ∷ ‵ ftrue ∷ []) ∵
          enter ! C Λ code.function (slice_val (b, o) (length xs) ∷ vint w64 count ∷ vint w64 rest ∷ []) _ $
          alloc_all ! (λ l. pass_all ! refl ((tt, (tt, (record { fits = length_fits }, tt))), ((tt, record { fits = count_fits }), ((tt, record { fits = rest_fits }), tt))) $
          let E : Env 𝓤 H = env code.function.locals l in
          -- [the loan; the token of its lifetime; the locals]
          use2 𝓛 (later (some (λ (γs : GName × GName).
          ‵ (owned (front γs.0) o count) ⊛ ‵ (owned (back behind γs.1) behind rest) ⊛ ‵ (flft κ q) ⊛ ‵ (Follows γs)))) two_loans $
          await ! tt $ pick ! (λ γs. split3 ! $
          use2 𝓛 (‵ (Pair.own_val (front γs.0, back behind γs.1) (returned ∷ []))) (paired γs) $
          -- [the pair of loans; a token and `Follows`; the locals]. From here, the statements.
          -- let start = blocks.as_mut_ptr();
          sets ! (addr ! (from ! (fld ! refl (hop ! (look_in_at ! 1 (sub ! 0 refl (whole !))) (stop !))))) refl (tt, tt) $
          first ! $ blocks ! $
          -- start.add(first)
          sets ! (bin ! (get ! refl) size_of_block (record { fits = distance_fits })) refl (tt, record { fits = distance_fits }) $
          sets ! (bin ! (get ! refl) (get ! refl) tt) refl (tt, tt) $
          -- let behind = from_raw_parts_mut(.., others);
          sets ! (agg ! (and_then ! (get ! refl) (and_then ! (get ! refl) (no_more !)))) refl (tt, (tt, (record { fits = rest_fits }, tt))) $
          -- (from_raw_parts_mut(start, first), behind)
          sets ! (agg ! (and_then ! (get ! refl) (and_then ! (get ! refl) (no_more !)))) refl (tt, (tt, (record { fits = count_fits }, tt))) $
          sets ! (addr ! (from ! (fld ! refl (hop ! (look_in_at ! 5 (sub ! 0 refl (whole !))) (stop !))))) refl (tt, tt) $
          sets ! (agg ! (and_then ! (get ! refl) (and_then ! (get_in ! (fld ! refl (stop !)) (sub ! 1 refl (whole !))) (no_more !)))) refl
          (tt, (tt, (record { fits = rest_fits }, tt))) $
          sets_last ! (agg ! (and_then ! (get ! refl) (and_then ! (get ! refl) (no_more !)))) refl (tt, ((tt, (record { fits = count_fits }, tt)), ((tt, (record { fits = rest_fits }, tt)), tt))) $
          exec ! C Λ E (after 2 code.function.body) (at_ret E Post) $
          sets ! (of_opd ! (get ! refl)) refl (tt, ((tt, (record { fits = count_fits }, tt)), ((tt, (record { fits = rest_fits }, tt)), tt))) $
          returns ! (look_at ! 0 refl) $ free_all ! refl $ by ! (exits γs)))

pub lend_parts_spec : {M : Type 1} → statement M
lend_parts_spec 𝓤 𝓛 𝓜 𝓡 wired =
    let 𝓣 = tables 𝓤 𝓛.H 𝓜 𝓡 𝓡.env in
    proved 𝓛 F.ended stayed (F.clauses 𝓛 𝓜.mem 𝓡.returns) 𝓜 𝓡
    (Goes-spent_slice 𝓛 1 (0 ∷ []) tt (plain (λ _. R)), (Goes-dropped 𝓛 1 (plain (λ _. usize)) yes (λ κs x f. refl), (Goes-dropped 𝓛 1 (plain (λ _. usize)) yes (λ κs x f. refl), tt)))
    own_name code.function (code.unfolded 𝓤 𝓛.H 𝓜 𝓡 wired)
    (λ κs. (mut_slice_vals, (uint_vals w64, (uint_vals w64, tt)))) (λ κs. (mut_slice_Tells (named 0) κs.0 R, (uint_Tells w64, (uint_Tells w64, tt))))
    (λ κs qs bounds a none are.
    -- the token and the parameters, and the `requires`
    let loan = (MutSlice (named 0) κs.0 R).own_val a.0 (mut_slice_vals a.0) in
    qed 𝓛 (((‵ (flft κs.0 qs.0) ⊛ ‵ ftrue) ⊛ ‵ loan ⊛ ‵ (usize.own_val a.1.0 (uint_vals w64 a.1.0))
    ⊛ ‵ (usize.own_val a.1.1.0 (uint_vals w64 a.1.1.0)) ⊛ ‵ ftrue)
    ∷ raw (fact 𝓤 (a.1.0 + a.1.1.0 ≡ length a.0.now)) ∷ []) ∵
    move ! (1 ∷ []) $ heard ! _ (λ all.
    split ! $ move ! (1 ∷ []) $ split ! $ move ! (2 ∷ 0 ∷ []) $ split ! $ keep ! (2 ∷ 0 ∷ 1 ∷ []) $
    by ! (walk 𝓛 κs.0 qs.0 a.0.ref_ptr.0 a.0.ref_ptr.1 a.0.ghost_name a.0.now a.1.0 a.1.1.0 are.0.0.1 all 𝓜.mem 𝓡.returns 𝓣.C 𝓣.Λ are.1.0.1 are.1.1.0.1)))
