use Rattle.std.proofs.Common.{arith, ◌≡◌, ◌+◌, ◌∷◌, ◌++◌, [], ◌∙◌, Vec, inl, inr, refl, subst, sym, ap}
use Rattle.std.proofs.lemmas.List.{map_push}
use Rattle.std.specs.Prelude.{string_bytes}
use Rattle.std.specs.Result.{IsOk}
use Rattle.argon2_commands.specs.Words.{IsArgument, texts_of}
use Rattle.argon2_commands.proofs.Passwords.{IsReadTo, all_read, no_text, none_read, one_more}
use Rattle.argon2_commands.proofs.command_line.arguments.Goals as goal

pub returns-in_default-clause-all : goal.returns-in_default-clause-all
returns-in_default-clause-all g c =
    all_read (g.L.CommandLine.arguments c.args.line.now) (texts_of c.loop-index.words.items) c.loop-index.index c.loop-index.invariant.0
    (subst (λ found. IsArgument (g.L.CommandLine.arguments c.args.line.now) c.loop-index.index found) c.in_default.is c.in_ok-bytes.ensures.found)

pub returns-in_default-from_utf8-clause-fault : goal.returns-in_default-from_utf8-clause-fault
returns-in_default-from_utf8-clause-fault g c =
    inl (
      refl,
      no_text (g.L.CommandLine.arguments c.args.line.now) c.loop-index.index c.in-Some.bytes (omega (arith, c.loop-index.invariant.1))
          (subst (λ found. IsArgument (g.L.CommandLine.arguments c.args.line.now) c.loop-index.index found) c.in-Some.is c.in_ok-bytes.ensures.found)
          (λ text. absurd (cc (subst (λ read. IsOk read) c.in_default-from_utf8.is (c.from_utf8.ensures.succeeds text)))),
    )

pub loop-index-preserved : goal.loop-index-preserved
loop-index-preserved g c =
    let known = g.L.CommandLine.arguments c.args.line.now in
    let before = texts_of c.loop-index.words.items in
    let pushed : texts_of c.push.new.self.items ≡ before ++ c.in-Some.bytes.items ∷ [] =
    ap texts_of c.in_ok-push.ensures.items ∙ map_push string_bytes c.loop-index.words.items c.in-Ok.word
    ∙ ap (λ (v : Vec _ _). before ++ v.items ∷ []) c.in-Ok.ensures.ok in (
      subst (λ texts. IsReadTo known texts (c.loop-index.index + 1)) (sym pushed)
          (one_more known before c.loop-index.index c.in-Some.bytes c.loop-index.invariant.0
          (subst (λ found. IsArgument known c.loop-index.index found) c.in-Some.is c.in_ok-bytes.ensures.found)),
      omega (arith, c.loop-index.invariant.1),
    )

pub loop-index-init : goal.loop-index-init
loop-index-init g c =
    let known = g.L.CommandLine.arguments c.args.line.now in
    (subst (λ items. IsReadTo known (texts_of items) 1) (sym c.new-words.ensures.items) (none_read known), omega arith)

pub returns : goal.returns
returns g c = record { all = tt; fault = inr refl }
