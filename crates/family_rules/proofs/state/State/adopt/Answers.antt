use Rattle.std.proofs.Common.{◌≡◌, ◌≢◌, ◌∙◌, sym, ap, subst, ℕ, ◌<◌, true, length, Option, Some, arith}
use Rattle.std.proofs.lemmas.List.{length-set}
use Rattle.txn_tree.specs.Calls.{ended}
use Rattle.txn_tree.specs.Rows.{IsParent, parent}
use Rattle.family_rules.specs.Room.{StateParts}
use Rattle.family_rules.proofs.Kept.{handed_few, handed_once}
use Rattle.family_rules.proofs.Lives.{ended_top}
use Rattle.family_rules.proofs.state.State.adopt.Goals as goal

pub invariant_of-self : goal.invariant_of-self
invariant_of-self c =
    let b = c.args.branch in
    let above = c.args.above in
    let rows = c.self.inside.tree.rows in
    let ballots = c.self.inside.votes.ballots in
    let many = ap (λ (v : StateParts). length v.family.rows) c.self.view_is in
    let within : b < length rows = omega (arith, many, c.requires.there) in
    let up : parent rows b ≡ Some above = ap (λ (v : StateParts). parent v.family.rows b) c.self.view_is ∙ c.requires.parent in
    let earlier : above < b = subst (λ (o : Option ℕ). IsParent b o) up (c.count.ensures.tree.parents b within) in
    let differ : b ≢ above = omega arith in
    let kept : length (ended rows b true) ≡ length rows = simp length-set in
    rw (c.adopt.ensures, c.close.ensures)
    (record {
      few = c.self.invariant.few;
      serial = c.self.invariant.serial;
      seats = c.self.invariant.seats ∙ sym kept;
      synchronizations = c.self.invariant.synchronizations;
      order = c.self.invariant.order;
      synchronization_order = c.self.invariant.synchronization_order;
      lists = handed_few ballots.lists b above (length ballots.registrations) differ c.self.invariant.lists;
      once = handed_once ballots.lists b above (length ballots.registrations) differ c.self.invariant.once;
      tasks = c.self.invariant.tasks;
      places = c.self.invariant.places;
      tally = c.self.invariant.tally;
      outs = c.self.invariant.outs;
      outs_room = c.self.invariant.outs_room;
      top = ended_top rows b true (omega (arith, earlier)) c.self.invariant.top;
    })
