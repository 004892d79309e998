-- What a node asks of its journal when it hears an answer: what a family wants that waits for it, or the Done of a record that it
-- completes.
use Rattle.std.proofs.Common.{◌≡◌, ℕ, ◌==◌, ◌||◌, Bool, true, false, is_some, if◌then◌else◌, [], ◌∷◌, Option, Some, None, refl, sym, ap, subst, arith}
use Rattle.std.specs.Option.{option_map}
use Rattle.std.proofs.lemmas.Bool.Decides.{nat_tests}
use Rattle.ior_refs.specs.declared.key.ObjectKey.{ObjectKey}
use Rattle.ots_model.specs.declared.completion.CallNumber.{CallNumber}
use Rattle.ots_model.specs.declared.tree.Heard.{Heard}
use Rattle.ots_model.specs.declared.tree.Outward.{Outward}
use Rattle.recovery_coord.specs.Hearing.{completed}
use Rattle.recovery_coord.specs.Limits.{retold_slot}
use Rattle.txn_tree.specs.Calls.{marked}
use Rattle.txn_tree.specs.Rows.{parent}
use Rattle.coordinator.specs.Family.{Family, Aim, Call, Commits, RollsBack, call_at, waiting_for, with_call}
use Rattle.coordinator.specs.Hearing.{hears_at, is_markable, is_plain, marks, marks_parent, told, told_commit, told_end, told_participant}
use Rattle.coordinator.specs.History.{has_room}
use Rattle.coordinator.specs.Moves.{completes_as, only, shows}
use Rattle.coordinator.specs.Node.{Node, family_of, life}
use Rattle.coordinator.specs.NodeCalls.{RetoldAnswer, call_wants, records_want, retold_answer, wanted_by}
use Rattle.coordinator.specs.Phases.{has_parent_ended}
use Rattle.coordinator.specs.Step.{Wanted, WritesDone, hears, hears_call, hears_for, wanted, wanted_by as wanted_after}
use Rattle.coordinator.specs.declared.call.Leg.{Leg}
use Rattle.coordinator.specs.declared.call.Leg.TheVariants.{Below, Own, Before, Deciding, After}
use Rattle.coordinator.specs.declared.effect.Effect.TheVariants as effects
use Rattle.coordinator.specs.declared.event.Event.{Event}
use Rattle.coordinator.specs.declared.said.Said.{Said}
use Rattle.nodes_world.specs.AgreementInside.{IsNotBefore}
use Rattle.nodes_world.specs.Deliveries.{answer_event, heard_in}
use Rattle.nodes_world.specs.Objects.{family_key}
use Rattle.nodes_world.proofs.AskedKeeps.{without_out}
use Rattle.nodes_world.proofs.CallKnown.{for_key}
use Rattle.nodes_world.proofs.CompletesKnown.{wants_again}

-- ---- what is asked for

pub data Asks (place now : ℕ) (o : Outward) (answer : Said) (n : Node) : Option Wanted → Type 0 where
  nothing : Asks place now o answer n None
  of_family : (f : Family) (b : ℕ) (x : Wanted) → family_of (family_key place o.number) n ≡ Some f → waiting_for f o.number ≡ Some b
      → wanted f (answer_event o answer now) ≡ Some x → Asks place now o answer n (Some x)
  of_record : (done : ℕ) → o.number.slot ≡ retold_slot → completed (life n) o.number (heard_in answer) n.recovered ≡ Some done
      → Asks place now o answer n (Some (WritesDone done))

module _ (place now : ℕ) (o : Outward) (answer : Said) (n : Node) where
  abbrev key : ObjectKey
  key = family_key place o.number

  abbrev e : Event
  e = answer_event o answer now

  abbrev AsksFor : Option Wanted → Type 0
  AsksFor x = Asks place now o answer n x

  to_record : o.number.slot ≡ retold_slot → (c : Option ℕ) → completed (life n) o.number (heard_in answer) n.recovered ≡ c → AsksFor (option_map WritesDone c)
  to_record again None none = nothing
  to_record again (Some done) is = of_record done again is

  stale : (f : Family) → waiting_for f o.number ≡ None → wanted f e ≡ None
  unfolding wanted
  stale f none = ap (λ (x : Option ℕ). if is_some x then wanted_after (hears o.number (heard_in answer) f).family else None) none

  by_waiting : (f : Family) → family_of key n ≡ Some f → (x : Option ℕ) → waiting_for f o.number ≡ x → AsksFor (wanted f e)
  by_waiting f of None none = subst AsksFor (sym (stale f none)) nothing
  by_waiting f of (Some b) waits = by (wanted f e) refl
    where
      by : (x : Option Wanted) → wanted f e ≡ x → AsksFor x
      by None is = nothing
      by (Some x) is = of_family f b x of waits is

  to_family : retold_answer e.act ≡ None → (x : Option Family) → family_of key n ≡ x → AsksFor (wanted_by x e n)
  to_family retold None is = subst AsksFor (sym (ap (λ (x : Option RetoldAnswer). records_want x n) retold)) nothing
  to_family retold (Some f) is = by (has_room f.entries e)
    where
      by : (t : Bool) → AsksFor (if t then wanted f e else None)
      by true = by_waiting f is (waiting_for f o.number) refl
      by false = nothing

  pub asks_of : AsksFor (call_wants key e n)
  unfolding call_wants
  asks_of = by (o.number.slot == retold_slot) refl
    where
      same : o.number.slot == retold_slot ≡ true → o.number.slot ≡ retold_slot
      same is = grind (arith, nat_tests, is)

      by : (t : Bool) → o.number.slot == retold_slot ≡ t → AsksFor (call_wants key e n)
      by true again =
          subst AsksFor (sym (wants_again place now o answer n again)) (to_record (same again) (completed (life n) o.number (heard_in answer) n.recovered) refl)
      by false family =
          let retold : retold_answer e.act ≡ None = ap (λ (b : Bool). if b then Some (record { number = o.number; heard = heard_in answer }) else None) family in
          subst (λ (x : Option Family). AsksFor (wanted_by x e n)) (sym (for_key key e n retold)) (to_family retold (family_of key n) refl)

-- what a family wants for which a call waits
pub wanted_heard : (f : Family) (b now : ℕ) (o : Outward) (answer : Said) → waiting_for f o.number ≡ Some b
    → wanted f (answer_event o answer now) ≡ wanted_after (hears o.number (heard_in answer) f).family
unfolding wanted
wanted_heard f b now o answer waits = ap (λ (x : Option ℕ). if is_some x then wanted_after (hears o.number (heard_in answer) f).family else None) waits

-- ---- whose answer is heard

same_marks : (b : ℕ) (f : Family) → (marks b f).family.key ≡ f.key
unfolding marks
same_marks b f = by (is_markable f b)
  where
    by : (t : Bool) → (if t then shows (effects.Marked b ∷ []) (record f { rows = marked f.rows b }) else only f).family.key ≡ f.key
    by true = refl
    by false = refl

same_parent : (o : Option ℕ) (f : Family) → (marks_parent o f).family.key ≡ f.key
same_parent (Some above) f = same_marks above f
same_parent None f = refl

same_end : (aim : Aim) (b : ℕ) (h : Heard) (f : Family) → (told_end aim b h f).family.key ≡ f.key
unfolding told_commit
same_end (Commits asked) b h f = by (is_plain h || has_parent_ended f b)
  where
    by : (t : Bool) → (if t then only f else marks_parent (parent f.rows b) f).family.key ≡ f.key
    by true = refl
    by false = same_parent (parent f.rows b) f
same_end (RollsBack says) b h f = refl

same_leg : (leg : Leg) (n : CallNumber) (b : ℕ) (c : Call) (h : Heard) (f : Family) → IsNotBefore leg
    → (told leg n b (without_out c) h (with_call b (without_out c) f)).family.key ≡ f.key
unfolding told_participant completes_as
same_leg Below n b c h f never = refl
same_leg Own n b c h f never = same_end c.aim b h (with_call b (without_out c) f)
same_leg (Before so_many) n b c h f never = absurd never
same_leg Deciding n b c h f never = refl
same_leg (After so_many) n b c h f never = refl

same_call : (o : Option Call) (n : CallNumber) (b : ℕ) (h : Heard) (f : Family) → call_at f b ≡ o → ((c : Call) → call_at f b ≡ Some c → IsNotBefore c.leg)
    → (hears_call o b n h f).family.key ≡ f.key
unfolding hears_at
same_call (Some c) n b h f at legs = same_leg c.leg n b c h f (legs c at)
same_call None n b h f at legs = refl

-- the family stays that of its key
pub heard_same_key : (f : Family) (n : CallNumber) (h : Heard) (b : ℕ) → waiting_for f n ≡ Some b → ((c : Call) → call_at f b ≡ Some c → IsNotBefore c.leg)
    → (hears n h f).family.key ≡ f.key
unfolding hears
heard_same_key f n h b waits legs = subst (λ (o : Option ℕ). (hears_for o n h f).family.key ≡ f.key) (sym waits) (same_call (call_at f b) n b h f refl legs)
