-- Slices that are written in two parts: the first elements, and then the rest.
use Rattle.std.proofs.Common.{◌≡◌, ℕ, ◌≤◌, List, [], ◌++◌, length, take, drop, refl, ◌∙◌, arith, length-append, length-drop}
use Rattle.std.proofs.lemmas.List.{append-nil, drop_all, take-append-le, take_all}
use borrow.Rule.Slice.PartMut.{put_mid}

-- if zs replaces rest in ys ++ rest, the result is ys ++ zs
pub put_rest : {X : Type 0} (a k : ℕ) (ys rest zs : List X) → length ys ≡ a → length rest ≤ k → put_mid a k (ys ++ rest) zs ≡ ys ++ zs
put_rest a k ys rest zs len few =
    let front : take a (ys ++ rest) ≡ ys = take-append-le a ys rest (omega arith) ∙ take_all a ys (omega arith) in
    let none : drop k (drop a (ys ++ rest)) ≡ [] = drop_all k (drop a (ys ++ rest)) (omega (arith, length-drop a (ys ++ rest), length-append ys rest)) in
    rw (front, none, append-nil) refl
