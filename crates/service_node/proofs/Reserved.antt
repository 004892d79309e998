-- What the journal answered in a step is told by its entry, and that a Done stands by its effects.
use Rattle.std.proofs.Common.{◌≡◌, ◌∙◌, ℕ, zero, suc, ◌<◌, inl, inr, Bool, true, false, ◌||◌, if◌then◌else◌, List, [], ◌∷◌, ◌++◌, length, get_or, Option, Some, None, is_some, is_none, refl, sym, ap, subst, arith}
use Rattle.std.specs.Prelude.{slice_get, Contains, IfSome}
use Rattle.std.specs.List.{filter, list_any}
use Rattle.std.specs.Option.{option_and_then}
use Rattle.std.proofs.lemmas.Option.{slice_get_past}
use Rattle.ots_model.specs.declared.completion.Stood.{Stood}
use Rattle.ots_model.specs.declared.completion.Stood.TheVariants as answers
use Rattle.ots_outside.specs.Disk.{DiskState}
use Rattle.decision_journal.specs.declared.journal.JournalFault.{JournalFault}
use Rattle.decision_journal.specs.declared.journal.JournalFault.TheVariants.{DiskFault, Full, BadHeader, BadRecord, LivesSpent, Memory}
use Rattle.decision_journal.specs.Journal.{Found}
use Rattle.decision_journal.specs.State.{JournalState}
use Rattle.recovery_coord.specs.declared.held.Held.{Held}
use Rattle.coordinator.specs.declared.effect.Effect.{Effect}
use Rattle.coordinator.specs.declared.effect.Effect.TheVariants as effects
use Rattle.coordinator.specs.declared.event.Act.{Act}
use Rattle.coordinator.specs.declared.event.Act.TheVariants as acts
use Rattle.coordinator.specs.declared.event.Event.{Event}
use Rattle.coordinator.specs.declared.said.Entry.{Entry}
use Rattle.coordinator.specs.declared.said.Said.{Said}
use Rattle.coordinator.specs.declared.said.Said.TheVariants as said
use Rattle.coordinator.specs.Family.{Family, waiting_for}
use Rattle.coordinator.specs.History.{kept_for}
use Rattle.coordinator.specs.Step.{Wanted, Appends, WritesDone, Rereads, acted, entered, family_step, hears, is_silent, is_silent_act, quiet, step_by, wanted, wanted_act, wanted_by}
use Rattle.family_laws.specs.LawsOfJournal.{FamiliesCloseLast}
use Rattle.family_step.specs.Asking.{IsAsked, stood_by}
use Rattle.service_node.specs.Applying.{is_done, let_go, records_without}
use Rattle.service_node.specs.Journaling.{kept_once, still_stands}

-- ---- the entry of a step

abbrev pub told_at : List Entry → ℕ → Option Stood
told_at entries place = option_and_then (λ (e : Entry). e.stood) (slice_get entries place)

last_told : (entries : List Entry) (e : Entry) → told_at (entries ++ e ∷ []) (length entries) ≡ e.stood
last_told [] e = refl
last_told (x ∷ entries) e = last_told entries e

none_told : (entries : List Entry) → told_at entries (length entries) ≡ None
none_told entries = ap (λ (o : Option Entry). option_and_then (λ (e : Entry). e.stood) o) (slice_get_past entries (length entries) (omega arith))

entered_told : (f : Family) (e : Event) (stood : Option Stood) → told_at (entered f e stood (acted e stood f)).family.entries (length f.entries) ≡ stood
unfolding entered
entered_told f e stood = last_told f.entries _

entered_caused : (f : Family) (e : Event) (stood : Option Stood) (P : Stood → Type 0)
    → ((entry : Entry) → (entered f e stood (acted e stood f)).family.entries ≡ f.entries ++ entry ∷ [] → IfSome entry.stood P) → IfSome stood P
unfolding entered
entered_caused f e stood P each = each _ refl

-- a step that makes no entry wants nothing
silent_wants : (a : Act) (now : ℕ) (f : Family) → is_silent_act a now f ≡ true → wanted_act a f ≡ None
silent_wants (acts.Answer n h) now f silent = by_waiting (waiting_for f n) silent
  where
    by_waiting : (o : Option ℕ) → is_none o ≡ true → (if is_some o then wanted_by (hears n h f).family else None) ≡ None
    by_waiting None e = refl
    by_waiting (Some b) e = absurd cc
silent_wants acts.Tick now f silent = refl
silent_wants (acts.Reread stands) now f silent = absurd cc
silent_wants _ now f silent = refl

module _ {D : Type 0} (told : D → Option DiskState) (counts : D → ℕ) (f : Family) (e : Event) (before after : JournalState D) (stood : Option Stood) where
  nothing_stood : (o : Option Wanted) → o ≡ None → IsAsked told counts o before after stood → None ≡ stood
  nothing_stood None is a = sym a.1
  nothing_stood (Some w) is a = absurd cc

  stood_told : IsAsked told counts (wanted f e) before after stood → told_at (family_step f e stood).family.entries (length f.entries) ≡ stood
  unfolding family_step wanted
  stood_told a = by_kept (kept_for f.entries e.key) a
    where
      by_silence : (silent : Bool) → is_silent e f ≡ silent → IsAsked told counts (wanted_act e.act f) before after stood
          → told_at (if silent then quiet said.Plain f else entered f e stood (acted e stood f)).family.entries (length f.entries) ≡ stood
      by_silence true is asked = none_told f.entries ∙ nothing_stood (wanted_act e.act f) (silent_wants e.act e.now f is) asked
      by_silence false is asked = entered_told f e stood

      by_kept : (o : Option Said) → IsAsked told counts (if is_some o then None else wanted_act e.act f) before after stood
          → told_at (step_by o f e stood).family.entries (length f.entries) ≡ stood
      by_kept (Some answer) asked = none_told f.entries ∙ sym asked.1
      by_kept None asked = by_silence (is_silent e f) refl asked

  -- and so it is read
  pub stood_read : (entries : List Entry) (count : ℕ) → entries ≡ (family_step f e stood).family.entries → count ≡ length f.entries
      → IsAsked told counts (wanted f e) before after stood → told_at entries count ≡ stood
  stood_read entries count same length_is a =
      ap (λ (xs : List Entry). told_at xs count) same ∙ ap (told_at (family_step f e stood).family.entries) length_is ∙ stood_told a

  -- what it answered has the cause that its entry has
  pub caused_told : (P : Stood → Type 0) → ((entry : Entry) → (family_step f e stood).family.entries ≡ f.entries ++ entry ∷ [] → IfSome entry.stood P)
      → IsAsked told counts (wanted f e) before after stood → IfSome stood P
  unfolding family_step wanted
  caused_told P each a = by_kept (kept_for f.entries e.key) each a
    where
      by_silence : (silent : Bool) → is_silent e f ≡ silent
          → ((entry : Entry) → (if silent then quiet said.Plain f else entered f e stood (acted e stood f)).family.entries ≡ f.entries ++ entry ∷ [] → IfSome entry.stood P)
          → IsAsked told counts (wanted_act e.act f) before after stood → IfSome stood P
      by_silence true is each asked = subst (λ (o : Option Stood). IfSome o P) (nothing_stood (wanted_act e.act f) (silent_wants e.act e.now f is) asked) tt
      by_silence false is each asked = entered_caused f e stood P each

      by_kept : (o : Option Said) → ((entry : Entry) → (step_by o f e stood).family.entries ≡ f.entries ++ entry ∷ [] → IfSome entry.stood P)
          → IsAsked told counts (if is_some o then None else wanted_act e.act f) before after stood → IfSome stood P
      by_kept (Some answer) each asked = subst (λ (o : Option Stood). IfSome o P) (sym asked.1) tt
      by_kept None each asked = by_silence (is_silent e f) refl each asked

-- ---- its effects

or_right : (a b : Bool) → b ≡ true → (a || b) ≡ true
or_right true b is = refl
or_right false b is = is

any_done : (xs : List Effect) → Contains xs effects.Done → list_any is_done xs ≡ true
any_done xs c = go xs c.0 c.1 c.2
  where
    here : (y : Effect) (rest : Bool) → y ≡ effects.Done → (is_done y || rest) ≡ true
    here y rest same = subst (λ (z : Effect). (is_done z || rest) ≡ true) (sym same) refl

    go : (ys : List Effect) (i : ℕ) → i < length ys → get_or ys i effects.Done ≡ effects.Done → list_any is_done ys ≡ true
    go [] i l is = absurd (omega (arith, l))
    go (y ∷ ys) zero l is = here y (list_any is_done ys) is
    go (y ∷ ys) (suc i) l is = or_right (is_done y) (list_any is_done ys) (go ys i (omega (arith, l)) is)

is_the_done : (y : Effect) → is_done y ≡ true → y ≡ effects.Done
is_the_done effects.Done is = refl
is_the_done (effects.Voted g vote) is = absurd cc
is_the_done (effects.Decided fixed) is = absurd cc
is_the_done (effects.SubtransactionEnded b committed) is = absurd cc
is_the_done (effects.Marked b) is = absurd cc
is_the_done effects.Doubted is = absurd cc

pub done_there : (xs : List Effect) → list_any is_done xs ≡ true → Contains xs effects.Done
done_there [] is = absurd cc
done_there (x ∷ xs) is = by_test (is_done x) refl is (done_there xs)
  where
    by_test : (b : Bool) → is_done x ≡ b → (b || list_any is_done xs) ≡ true → (list_any is_done xs ≡ true → Contains xs effects.Done) → Contains (x ∷ xs) effects.Done
    by_test true here is rest = (zero, omega arith, is_the_done x here)
    by_test false here is rest = let c = rest is in (suc c.0, omega (arith, c.1), c.2)

refused_without : (fault : JournalFault) (a b : ℕ) (rs : List Held) → records_without (Some (stood_by fault a b)) rs ≡ rs
refused_without DiskFault a b rs = refl
refused_without (Full u n) a b rs = refl
refused_without (BadHeader at) a b rs = refl
refused_without (BadRecord at) a b rs = refl
refused_without LivesSpent a b rs = refl
refused_without Memory a b rs = refl

refused_let : (place : ℕ) (fault : JournalFault) (a b : ℕ) (rs : List Held) → let_go (Some (WritesDone place)) (Some (stood_by fault a b)) rs ≡ rs
refused_let place DiskFault a b rs = refl
refused_let place (Full u n) a b rs = refl
refused_let place (BadHeader at) a b rs = refl
refused_let place (BadRecord at) a b rs = refl
refused_let place LivesSpent a b rs = refl
refused_let place Memory a b rs = refl

append_let : (r : _) (stood : Stood) (rs : List Held) → let_go (Some (Appends r)) (Some stood) rs ≡ rs
append_let r (answers.Stands at) rs = refl
append_let r (answers.Full u n) rs = refl
append_let r (answers.Unsure why) rs = refl

module _ {D : Type 0} (told : D → Option DiskState) (counts : D → ℕ) (laws : FamiliesCloseLast) (f : Family) (e : Event) (before after : JournalState D) (rs : List Held) where
  abbrev any_of : Option Stood → Bool
  any_of stood = list_any is_done (family_step f e stood).effects

  abbrev gone : Bool → Option Stood → List Held
  gone done stood = if done then records_without stood rs else rs

  same_either : (done : Bool) (xs : List Held) → xs ≡ rs → (if done then xs else rs) ≡ rs
  same_either true xs is = is
  same_either false xs is = refl

  -- only a Done that was wanted is told
  not_done : (stood : Option Stood) (w : Option Wanted) → wanted f e ≡ w → ((place : ℕ) → w ≡ Some (WritesDone place) → ⊥) → any_of stood ≡ false
  not_done stood w is never = by_test (any_of stood) refl
    where
      by_test : (b : Bool) → any_of stood ≡ b → b ≡ false
      by_test false any = refl
      by_test true any = let t = laws.told f e stood (done_there (family_step f e stood).effects any) in absurd (never t.0 (sym is ∙ t.2))

  by_wanted : (w : Option Wanted) (stood : Option Stood) → wanted f e ≡ w → IsAsked told counts w before after stood → gone (any_of stood) stood ≡ let_go w stood rs
  by_wanted None stood is a = ap (λ (b : Bool). gone b stood) (not_done stood None is (λ place e. cc))
  by_wanted (Some w) None is a = absurd a
  by_wanted (Some (Appends item)) (Some stood) is a =
      ap (λ (b : Bool). gone b (Some stood)) (not_done (Some stood) (Some (Appends item)) is (λ place e. cc)) ∙ sym (append_let item stood rs)
  by_wanted (Some (WritesDone place)) (Some stood) is a = elim a [
    | inl r ↦ subst (λ (x : Stood). gone (any_of (Some x)) (Some x) ≡ let_go (Some (WritesDone place)) (Some x) rs) (sym r.stood_is)
        (ap (λ (b : Bool). gone b (Some (answers.Stands place))) (any_done _ (laws.tells f e place place is)))
    | inr r ↦ subst (λ (x : Stood). gone (any_of (Some x)) (Some x) ≡ let_go (Some (WritesDone place)) (Some x) rs) (sym r.stood_is)
        (same_either (any_of (Some (stood_by r.fault (counts before.disk) (counts after.disk)))) _ (refused_without r.fault (counts before.disk) (counts after.disk) rs)
        ∙ sym (refused_let place r.fault (counts before.disk) (counts after.disk) rs))
  ]
  by_wanted (Some Rereads) (Some stood) is a = absurd a

  pub let_go_told : (stood : Option Stood) → IsAsked told counts (wanted f e) before after stood → gone (any_of stood) stood ≡ let_go (wanted f e) stood rs
  let_go_told stood a = by_wanted (wanted f e) stood refl a

-- ---- and what stands no more is let go where the journal was asked

pub kept_where : {D : Type 0} (told : D → Option DiskState) (counts : D → ℕ) (w : Option Wanted) (before after : JournalState D) (stood : Option Stood) (failed : Bool) (found : Found) (xs : List Held)
    → IsAsked told counts w before after stood
    → (if is_some stood then (if failed then filter (still_stands found) xs else xs) else xs) ≡ kept_once w failed found xs
kept_where told counts None before after stood failed found xs a =
    ap (λ (o : Option Stood). if is_some o then (if failed then filter (still_stands found) xs else xs) else xs) a.1
kept_where told counts (Some w) before after None failed found xs a = absurd a
kept_where told counts (Some w) before after (Some stood) failed found xs a = refl
