use Rattle.std.proofs.Common.{◌≡◌, ◌∙◌, ◌<◌, is_some, false, not, cond, None, Some, sym, ap, subst}
use Rattle.family_step.specs.Callers.{CallersParts, call_in, caller_key, same_caller, unanswered}
use Rattle.family_step.proofs.Indexed.{added, none_of, on_ok}
use Rattle.family_step.proofs.callers.Callers.add.Goals as goal

pub returns-then-is_none : goal.returns-then-is_none
returns-then-is_none c = record {
  added = λ k.
      let old = c.args.self.now.places in
      let key = c.args.key.now in
      let new : is_some c.find.result ≡ false = c.is_none.ensures ∙ ap not c.if-is_none.true in
      let none : call_in old key ≡ None = none_of (call_in old key) (ap is_some (sym c.find.ensures) ∙ new) in
      let room : 0 < c.args.self.now.room = c.requires.room in
      let fits = c.insert.ensures.succeeds (subst (λ (p : CallersParts). 0 < p.room) (sym c.self.view_is) room) in
      let updates = on_ok c.insert.result _ fits c.insert.ensures.updates in
      let put = updates.0 (caller_key k) in
      added old c.insert.new.self.entries key k c.args.place none
      (put ∙ ap (λ n. cond (same_caller n (caller_key k)) (Some (unanswered c.args.place)) (call_in c.self.inside.places.entries k)) c.caller_key.ensures
      ∙ ap (λ (p : CallersParts). cond (same_caller (caller_key key) (caller_key k)) (Some (unanswered c.args.place)) (call_in p.places k)) c.self.view_is);
}
