use Rattle.std.proofs.Common.{◌∙◌, ◌+◌, ◌-◌, ◌<◌, ℕ, suc, take, drop, length, ap, refl, arith}
use Rattle.std.specs.List.{remove}
use Rattle.std.proofs.lemmas.List.{length-drop}
use Rattle.decision_journal.specs.declared.record.JournalRecord.TheVariants.{Done}
use Rattle.decision_journal.specs.Index.{Lined}
use Rattle.decision_journal.proofs.Lined.{first_goes, removed_behind, turned_is}
use Rattle.decision_journal.proofs.line.Line.remove.Goals as goal

pub returns-then-len-at-clause-standing : goal.returns-then-len-at-clause-standing
returns-then-len-at-clause-standing c =
    ap (drop c.self.inside.gone) c.remove.ensures.items
    ∙ (removed_behind c.self.inside.gone c.args.index c.self.inside.items.items
    ∙ ap (λ (l : Lined). remove l.standing c.args.index) c.self.view_is)

pub returns-clause-standing : goal.returns-clause-standing
returns-clause-standing c =
    let xs = c.self.inside.items.items in
    let gone = c.self.inside.gone in
    let here : c.args.index < length (drop gone xs) = omega (arith, c.requires, ap (λ (l : Lined). length l.standing) c.self.view_is) in
    let within : gone + c.args.index < length xs = omega (arith, here, length-drop gone xs) in
    let turned = turned_is c.args.index (drop gone xs) c.slice_mut.result.now c.rotate_right.new.self here (c.slice_mut.ensures.value ∙ ap (λ (n : ℕ). take n (drop gone xs)) {x = gone + c.args.index + 1 - gone} {y = suc c.args.index} (omega arith)) c.rotate_right.ensures.after in
    first_goes c.self.inside.items.len gone c.args.index xs c.rotate_right.new.self (record { place = 0; item = Done 0 }) c.self.inside.items.ok.0 within turned _ refl
    ∙ ap (λ (l : Lined). remove l.standing c.args.index) c.self.view_is
