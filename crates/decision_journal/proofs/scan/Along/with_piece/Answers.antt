use Rattle.std.proofs.Common.{◌≡◌, ◌∙◌, ◌+◌, ◌-◌, ◌++◌, ℕ, List, take, drop, sym, ap, subst, arith, length, length-drop}
use Rattle.std.proofs.lemmas.List.{take_all}
use Rattle.decision_journal.specs.Journal.{IsAlong}
use Rattle.decision_journal.proofs.Along.{along_found, along_more}
use Rattle.decision_journal.proofs.scan.Along.with_piece.Goals as goal

pub returns-then-self-place-clause-along : goal.returns-then-self-place-clause-along
returns-then-self-place-clause-along c = λ read size a. along_found c.args.known.now read c.args.piece.now c.args.self.same c.args.self.closed (omega (arith, size, c.if-self-place.true)) a

pub returns-clause-along : goal.returns-clause-along
returns-clause-along c =
    λ read size a.
    let same_is : c.args.self.same ≡ c.args.place = omega (arith, c.requires.before, c.if-self-place.false) in
    let rest : take (length c.args.known.now - c.args.place) (drop c.args.place c.args.known.now) ≡ drop c.args.place c.args.known.now = take_all _ _ (omega (arith, length-drop c.args.place c.args.known.now)) in
    let piece = subst (λ (l : List ℕ). IsAlong l c.args.piece.now c.compare-more.result.same c.compare-more.result.closed) (rest ∙ ap (λ (n : ℕ). drop n c.args.known.now) (sym same_is)) c.compare-more.ensures in
    subst (λ (n : ℕ). IsAlong c.args.known.now (read ++ c.args.piece.now) (n + c.compare-more.result.same) c.compare-more.result.closed) same_is (along_more c.args.known.now read c.args.piece.now c.args.self.same c.compare-more.result.same c.args.self.closed c.compare-more.result.closed (omega (arith, size, same_is)) a piece)
