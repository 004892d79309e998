use Rattle.std.proofs.Common.{◌≡◌, ◌∙◌, sym, subst}
use Rattle.std.specs.Prelude.{IfSome, IsSome}
use Rattle.std.specs.List.{AllByRecursion}
use Rattle.decision_journal.specs.declared.record.Put.{Put}
use Rattle.resource_end.specs.End.{kept, moved}
use Rattle.resource_end.specs.Inside.{AreHeld, HoldsItsCells, MayFollow, holder_in, numbered, placed, puts_stored}
use Rattle.resource_end.proofs.Claims.{at_known, held_moved, held_stay, known, stored_known}
use Rattle.resource_end.proofs.contents.Contents.change.Goals as goal

pub change-puts-requires-clause-follows : goal.change-puts-requires-clause-follows
change-puts-requires-clause-follows c = subst (λ s. IfSome (numbered c.args.id s.resources) (λ r. MayFollow c.args.next r.state)) (sym c.self.view_is) c.requires.follows

pub store_all-requires : goal.store_all-requires
store_all-requires c =
    let there = subst (λ s. IsSome (numbered c.args.id s.resources)) (sym c.self.view_is) c.requires.known in
    let it = known (numbered c.args.id c.self.inside.resources) there (λ r. c.change-puts.result.items ≡ puts_stored c.args.next r) c.change-puts.ensures.puts in
    let held = at_known (numbered c.args.id c.self.inside.resources) it.0 (HoldsItsCells c.self.inside.contested c.self.inside.cells c.args.id) it.1.0 (c.self.invariant c.args.id) in
    record {
      known = subst (AllByRecursion (λ (p : Put). IsSome (holder_in p.cell c.self.inside.cells))) (sym (c.as_slice.ensures.value ∙ it.1.1))
          (stored_known c.self.inside.contested c.self.inside.cells c.args.id it.0 c.args.next held);
    }

pub invariant_of-self : goal.invariant_of-self
invariant_of-self c =
    let there = subst (λ s. IsSome (numbered c.args.id s.resources)) (sym c.self.view_is) c.requires.known in
    let may = subst (λ s. IfSome (numbered c.args.id s.resources) (λ r. MayFollow c.args.next r.state)) (sym c.self.view_is) c.requires.follows in
    let it = known (numbered c.args.id c.self.inside.resources) there
    (λ r. c.change-puts.new.self ≡ kept (moved c.args.next (placed c.args.next c.args.place r)) c.self.inside.resources) c.change-puts.ensures.after in
    held_stay c.self.inside.contested c.self.inside.cells c.store_all.new.self c.change-puts.new.self c.store_all.ensures.kept
    (subst (AreHeld c.self.inside.contested c.self.inside.cells) (sym it.1.1)
    (held_moved c.self.inside.contested c.self.inside.cells c.self.inside.resources c.args.id it.0 c.args.next c.args.place it.1.0
    (at_known (numbered c.args.id c.self.inside.resources) it.0 (λ r. MayFollow c.args.next r.state) it.1.0 may) c.self.invariant))
