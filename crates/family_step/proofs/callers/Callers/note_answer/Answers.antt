use Rattle.std.proofs.Common.{◌≡◌, ◌∙◌, cond, Option, Some, rules, sym, ap}
use Rattle.std.specs.Map.{lookup}
use Rattle.std.specs.Option.{option_map}
use Rattle.family_step.specs.Callers.{CallersParts, call_in, caller_key, meets, same_caller}
use Rattle.family_step.specs.declared.callers.CallPlaces.{CallPlaces}
use Rattle.family_step.specs.declared.callers.CallerKey.{CallerKey}
use Rattle.family_step.proofs.Indexed.{met}
use Rattle.family_step.proofs.callers.Callers.note_answer.Goals as goal

pub returns-in-Some-get_mut-clause-answered : goal.returns-in-Some-get_mut-clause-answered
returns-in-Some-get_mut-clause-answered c =
    let w = c.meet.result in
    let key = c.in-Some.key.now in
    let before = c.args.self.now.places in
    let inside = c.self.inside.places.entries in
    let updates = (c.get_mut.follows.holds w).3 (search rules) in
    let was : Some c.in-Some-get_mut.call.now ≡ call_in before key =
    c.in-Some-get_mut.ensures.value ∙ ap (λ (n : CallerKey). lookup (same_caller n) inside) c.caller_key.ensures
    ∙ ap (λ (p : CallersParts). call_in p.places key) c.self.view_is in
    let is : Some w ≡ option_map (meets c.args.position c.args.place) (call_in before key) =
    ap (λ (x : CallPlaces). Some x) c.meet.ensures ∙ ap (option_map (meets c.args.position c.args.place)) was in
    met c.args.entries.now c.args.position c.args.place key before (c.get_mut.follows.lender w).entries (sym c.in-Some.ensures)
    (λ k. updates.0 (caller_key k)
    ∙ ap (λ (n : CallerKey). cond (same_caller n (caller_key k)) (Some w) (call_in inside k)) c.caller_key.ensures
    ∙ ap (λ (p : CallersParts). cond (same_caller (caller_key key) (caller_key k)) (Some w) (call_in p.places k)) c.self.view_is
    ∙ ap (λ (o : Option CallPlaces). cond (same_caller (caller_key key) (caller_key k)) o (call_in before k)) is)
