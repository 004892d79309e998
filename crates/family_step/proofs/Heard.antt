-- A step that brings an answer: it is heard first, and then the journal is asked.
use Rattle.std.proofs.Common.{◌≡◌, ◌∙◌, refl, sym, ap, ℕ, Bool, false, Option, Some, None, is_some, is_none, if◌then◌else◌}
use Rattle.ots_model.specs.declared.completion.Stood.{Stood}
use Rattle.coordinator.specs.Family.{Family}
use Rattle.coordinator.specs.Hearing.{settles}
use Rattle.coordinator.specs.History.{kept_for}
use Rattle.coordinator.specs.Moves.{◌▹◌}
use Rattle.coordinator.specs.Running.{goes_on}
use Rattle.coordinator.specs.Step.{acted, acts_on, answered, entered, family_step, goes_on_at, hears, hears_for, is_silent_act, quiet, step_by, wanted, wanted_act, wanted_by}
use Rattle.coordinator.specs.Table.{Acted, does}
use Rattle.coordinator.specs.declared.event.Act.{Act}
use Rattle.coordinator.specs.declared.event.Act.TheVariants as acts
use Rattle.coordinator.specs.declared.event.Event.{Event}
use Rattle.coordinator.specs.declared.said.Said.{Said}
use Rattle.coordinator.specs.declared.said.Said.TheVariants as said
use Rattle.family_step.specs.Asking.{hearer, hears_act, is_reread, waits_for}

-- ---- nobody waits for an answer

none_waits : (a : Act) (f : Family) → waits_for a f ≡ None → is_reread a ≡ false → wanted_act a f ≡ None
none_waits (acts.Answer n h) f none given = ap (λ (o : Option ℕ). if is_some o then wanted_by (hears n h f).family else None) none
none_waits (acts.Reread stands) f none given = absurd (cc (given))
none_waits _ f none given = refl

pub nothing_wanted : (e : Event) (f : Family) → hearer e f ≡ None → is_reread e.act ≡ false → wanted f e ≡ None
unfolding wanted
nothing_wanted e f none given = by_kept (kept_for f.entries e.key) none
  where
    by_kept : (o : Option Said) → (if is_some o then None else waits_for e.act f) ≡ None → (if is_some o then None else wanted_act e.act f) ≡ None
    by_kept (Some x) is = refl
    by_kept None is = none_waits e.act f is given

-- ---- a call waits for it

answer_wants : (a : Act) (f : Family) (b : ℕ) → waits_for a f ≡ Some b → wanted_act a f ≡ wanted_by (hears_act a b f).family
unfolding hears
answer_wants (acts.Answer n h) f b is = ap (λ (o : Option ℕ). if is_some o then wanted_by (hears_for o n h f).family else None) is
answer_wants _ f b is = absurd (cc (is))

answer_is_new : (a : Act) (now : ℕ) (f : Family) (b : ℕ) → waits_for a f ≡ Some b → is_silent_act a now f ≡ false
answer_is_new (acts.Answer n h) now f b is = ap (λ (o : Option ℕ). is_none o) is
answer_is_new _ now f b is = absurd (cc (is))

answer_acts : (a : Act) (at now : ℕ) (stood : Option Stood) (f : Family) (b : ℕ) → waits_for a f ≡ Some b
    → acts_on a at now stood f ≡ does said.Plain (hears_act a b f ▹ settles stood ▹ goes_on b)
unfolding answered hears
answer_acts (acts.Answer n h) at now stood f b is =
    ap (λ (o : Option ℕ). does said.Plain (hears_for o n h f ▹ settles stood ▹ goes_on_at o)) is
answer_acts _ at now stood f b is = absurd (cc (is))

module _ (e : Event) (f : Family) (b : ℕ) (is : hearer e f ≡ Some b) where
  pub new_call : kept_for f.entries e.key ≡ None
  new_call = by_kept (kept_for f.entries e.key) is
    where
      by_kept : (o : Option Said) → (if is_some o then None else waits_for e.act f) ≡ Some b → o ≡ None
      by_kept (Some x) e = absurd (cc (e))
      by_kept None e = refl

  pub waits : waits_for e.act f ≡ Some b
  waits = sym (ap (λ (o : Option Said). if is_some o then None else waits_for e.act f) new_call) ∙ is

  pub heard_wants : wanted f e ≡ wanted_by (hears_act e.act b f).family
  unfolding wanted
  heard_wants = ap (λ (o : Option Said). if is_some o then None else wanted_act e.act f) new_call ∙ answer_wants e.act f b waits

  pub heard_acts : (stood : Option Stood) → acted e stood f ≡ does said.Plain (hears_act e.act b f ▹ settles stood ▹ goes_on b)
  unfolding acted
  heard_acts stood = answer_acts e.act e.branch e.now stood f b waits

  pub heard_steps : (stood : Option Stood) → family_step f e stood ≡ entered f e stood (does said.Plain (hears_act e.act b f ▹ settles stood ▹ goes_on b))
  unfolding family_step
  heard_steps stood =
      ap (λ (o : Option Said). step_by o f e stood) new_call
      ∙ (ap (λ (s : Bool). if s then quiet said.Plain f else entered f e stood (acted e stood f)) (answer_is_new e.act e.now f b waits)
      ∙ ap (λ (a : Acted). entered f e stood a) (heard_acts stood))
