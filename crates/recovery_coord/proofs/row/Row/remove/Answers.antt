use Rattle.std.proofs.Common.{◌∙◌, ◌+◌, ◌-◌, ◌<◌, ℕ, List, suc, take, drop, length, ap, refl, arith}
use Rattle.std.specs.List.{remove}
use Rattle.std.proofs.lemmas.List.{length-drop}
use Rattle.recovery_coord.specs.declared.held.Held.{Held}
use Rattle.recovery_coord.proofs.Rows.{first_goes, removed_behind, turned_is}
use Rattle.recovery_coord.proofs.row.Row.remove.Goals as goal

pub returns-then-len-at : goal.returns-then-len-at
returns-then-len-at c =
    ap (drop c.self.inside.gone) c.remove.ensures.items
    ∙ (removed_behind c.self.inside.gone c.args.index c.self.inside.items.items
    ∙ ap (λ (l : List Held). remove l c.args.index) c.self.view_is)

pub returns : goal.returns
returns c =
    let xs = c.self.inside.items.items in
    let gone = c.self.inside.gone in
    let here : c.args.index < length (drop gone xs) = omega (arith, c.requires, ap length c.self.view_is) in
    let within : gone + c.args.index < length xs = omega (arith, here, length-drop gone xs) in
    let turned = turned_is c.args.index (drop gone xs) c.slice_mut.result.now c.rotate_right.new.self here (c.slice_mut.ensures.value ∙ ap (λ (n : ℕ). take n (drop gone xs)) {x = gone + c.args.index + 1 - gone} {y = suc c.args.index} (omega arith)) c.rotate_right.ensures.after in
    first_goes c.self.inside.items.len gone c.args.index xs c.rotate_right.new.self c.nobody.result c.self.inside.items.ok.0 within turned _ refl
    ∙ ap (λ (l : List Held). remove l c.args.index) c.self.view_is
