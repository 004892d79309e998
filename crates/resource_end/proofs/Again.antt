-- What a record tells where it is recalled without memory: the resource that wrote it changes by itself.
use Rattle.std.proofs.Common.{◌≡◌, ◌∙◌, ℕ, Bool, true, false, cond, List, [], ◌∷◌, Option, Some, None, refl, sym, ap, subst}
use Rattle.std.specs.Prelude.{◌==◌, IfSome, IsSome, is_some}
use Rattle.std.specs.List.{Contains}
use Rattle.std.specs.Option.{option_and_then}
use Rattle.std.proofs.lemmas.Bool.{and_parts, both_ways, eqb-true}
use Rattle.decision_journal.specs.Index.{AreInOrder}
use Rattle.decision_journal.specs.declared.journal.Standing.{Standing}
use Rattle.decision_journal.specs.declared.record.CellsEnd.{CellsEnd}
use Rattle.decision_journal.specs.declared.record.CellsEnd.TheVariants as ends
use Rattle.decision_journal.specs.declared.record.JournalRecord.TheVariants.{CellsPrepared, CellsOnePhase}
use Rattle.decision_journal.specs.declared.record.Put.{Put}
use Rattle.resource_end.specs.declared.state.State.{State}
use Rattle.resource_end.specs.declared.state.State.TheVariants as states
use Rattle.resource_end.specs.States.{holds, is_unfinished, state_of}
use Rattle.resource_end.specs.Calls.{bound, is_open}
use Rattle.resource_end.specs.End.{End, Resource, changes, comes_before, is_numbered, moved, with_resource}
use Rattle.resource_end.specs.Recall.{letter_of, put_by, recalls, tells}
use Rattle.resource_end.specs.Inside.{AreRecorded, AreWritable, ContentsState, Id, IsRecorded, IsSomeSo, IsToldBy, IsUnrecordedWith, IsWritable, MayFollow, changed, numbered, placed, prepared_at, prepared_id, with_contents, with_record_of}
use Rattle.resource_end.proofs.Claims.{at_known, its_number, itself}
use Rattle.resource_end.proofs.Finding.{found_with}
use Rattle.resource_end.proofs.Named.{one_number}
use Rattle.resource_end.proofs.Told.{all_kept, at_its_place}

-- ---- two of one number, one put after the other

module _ (s r : Resource) (life : s.life ≡ r.life) (number : s.number ≡ r.number) where
  same_test : (t : Resource) → is_numbered s.life s.number t ≡ is_numbered r.life r.number t
  same_test t = (λ i. is_numbered (life i) (number i) t)

  same_turn : (t : Resource) → comes_before s t ≡ comes_before r t
  same_turn t = (λ i. comes_before (record r { life = life i; number = number i }) t)

  of_one_number : is_numbered s.life s.number r ≡ true
  of_one_number = same_test r ∙ itself r

  at : (t : Resource) (others : List Resource) (b c : Bool) → is_numbered r.life r.number t ≡ b → comes_before r t ≡ c
      → with_resource s (t ∷ others) ≡ cond b (s ∷ others) (cond c (s ∷ t ∷ others) (t ∷ with_resource s others))
  at t others b c p q = (λ i. cond ((same_test t ∙ p) i) (s ∷ others) (cond ((same_turn t ∙ q) i) (s ∷ t ∷ others) (t ∷ with_resource s others)))

  in_place : (others : List Resource) → with_resource s (r ∷ others) ≡ s ∷ others
  in_place others = ap (λ b. cond b (s ∷ others) (cond (comes_before s r) (s ∷ r ∷ others) (r ∷ with_resource s others))) of_one_number

  twice_by : (t : Resource) (others : List Resource) → with_resource s (with_resource r others) ≡ with_resource s others
      → (b c : Bool) → is_numbered r.life r.number t ≡ b → comes_before r t ≡ c
      → with_resource s (cond b (r ∷ others) (cond c (r ∷ t ∷ others) (t ∷ with_resource r others))) ≡ with_resource s (t ∷ others)
  twice_by t others rest true c p q = in_place others ∙ sym (at t others true c p q)
  twice_by t others rest false true p q = in_place (t ∷ others) ∙ sym (at t others false true p q)
  twice_by t others rest false false p q = at t (with_resource r others) false false p q ∙ ap (λ xs. t ∷ xs) rest ∙ sym (at t others false false p q)

  pub with_twice : (rs : List Resource) → with_resource s (with_resource r rs) ≡ with_resource s rs
  with_twice [] = in_place []
  with_twice (t ∷ others) = twice_by t others (with_twice others) (is_numbered r.life r.number t) (comes_before r t) refl refl

-- ---- a record is recalled by the resource that wrote it

pub now_bound : (recovery : List ℕ) (r : Resource) → r.record_place ≡ None → bound recovery r ≡ record r { recovery = recovery }
now_bound recovery r none = ap (λ o. cond (is_some o) r (record r { recovery = recovery })) none

pub bound_there : (k : Id) (rs : List Resource) (r : Resource) (recovery : List ℕ) → numbered k rs ≡ Some r → r.record_place ≡ None
    → numbered k (with_resource (bound recovery r) rs) ≡ Some (bound recovery r)
bound_there k rs r recovery is none =
    found_with k (bound recovery r) rs
    ∙ ap (λ b. cond b (Some (bound recovery r)) (numbered k rs)) (ap (is_numbered k.0 k.1) (now_bound recovery r none) ∙ its_number k rs r is)

pub prepared_again : (recovery : List ℕ) (place : ℕ) (r : Resource) (c c1 c2 : ContentsState) → r.record_place ≡ None
    → c1 ≡ record c { resources = with_resource (bound recovery r) c.resources }
    → c2 ≡ changed states.Prepared (placed states.Prepared (Some place) (bound recovery r)) c1
    → c2 ≡ changed states.Prepared (with_record_of recovery place r) c
prepared_again recovery place r c c1 c2 none p q =
    q
    ∙ ap (λ x. changed states.Prepared (placed states.Prepared (Some place) (bound recovery r)) x) p
    ∙ ap (λ x. changed states.Prepared (placed states.Prepared (Some place) x) (record c { resources = with_resource x c.resources })) (now_bound recovery r none)
    ∙ ap (λ rs. record { resources = rs; cells = (changed states.Prepared (with_record_of recovery place r) c).cells })
    (with_twice (moved states.Prepared (with_record_of recovery place r)) (record r { recovery = recovery }) refl refl c.resources)

-- the resource of a number is the one that a record of that number tells of
its_letter : (life number : ℕ) (e : End) (r : Resource) → numbered (life, number) e.resources ≡ Some r → letter_of life number e ≡ r.kind
its_letter life number e r is = ap (λ o. option_and_then (λ (s : Resource). s.kind) o) is

put_again : (life number : ℕ) (recovery : List ℕ) (puts : List Put) (e : End) (r : Resource) → numbered (life, number) e.resources ≡ Some r
    → IsUnrecordedWith puts r → put_by life number recovery puts e ≡ record r { recovery = recovery }
put_again life number recovery puts e r is so =
    let n = and_parts (r.life == life) (r.number == number) (its_number (life, number) e.resources r is) in
    (λ i. record {
      life = sym (eqb-true r.life life n.0) i;
      number = sym (eqb-true r.number number n.1) i;
      kind = its_letter life number e r is i;
      state = sym so.unrecorded.works i;
      recovery = recovery;
      puts = sym so.puts_are i;
      record_place = sym so.unrecorded.unrecorded i;
    })

pub prepared_told : (s : Standing) (life number : ℕ) (said recovery : List ℕ) (puts : List Put) → s.item ≡ CellsPrepared life number said puts
    → recovery ≡ said → (c c2 : ContentsState) (r : Resource) → numbered (life, number) c.resources ≡ Some r → IsUnrecordedWith puts r
    → c2 ≡ changed states.Prepared (with_record_of recovery s.place r) c → IsToldBy s c c2
unfolding recalls changes
prepared_told s life number said recovery puts is same c c2 r there so p e =
    ap (λ item. tells s.place item (with_contents c e)) is
    ∙ ap (λ x. tells s.place (CellsPrepared life number x puts) (with_contents c e)) (sym same)
    ∙ ap (λ x. changes states.Prepared (record x { record_place = Some s.place }) (with_contents c e)) (put_again life number recovery puts (with_contents c e) r there so)
    ∙ ap (λ x. with_contents x e) (sym p)

pub applied_told : (s : Standing) (life number : ℕ) (puts : List Put) → s.item ≡ CellsOnePhase life number puts
    → (c c2 : ContentsState) (r : Resource) → numbered (life, number) c.resources ≡ Some r → IsUnrecordedWith puts r
    → c2 ≡ changed states.Applied r c → IsToldBy s c c2
unfolding recalls changes
applied_told s life number puts is c c2 r there so p e =
    ap (λ item. tells s.place item (with_contents c e)) is
    ∙ ap (λ x. changes states.Applied x (with_contents c e)) (put_again life number [] puts (with_contents c e) r there so)
    ∙ ap (λ x. with_contents x e) (sym p)

-- ---- one that is there, and so

pub some_so : (o : Option Resource) (P : Resource → Type 0) → IsSomeSo o P → (r : Resource) × ((o ≡ Some r) × P r)
some_so None P h = absurd h
some_so (Some r) P h = (r, (refl, h))

pub so_is_some : (o : Option Resource) (P : Resource → Type 0) → IsSomeSo o P → IsSome o
so_is_some None P h = absurd h
so_is_some (Some r) P h = refl

pub so_if : (o : Option Resource) (P Q : Resource → Type 0) → IsSomeSo o P → ((r : Resource) → P r → Q r) → IfSome o Q
so_if None P Q h f = tt
so_if (Some r) P Q h f = f r h

-- it is over for one that has an outcome
pub ends_over : (how : CellsEnd) → is_unfinished (state_of how) ≡ false
ends_over ends.Applied = refl
ends_over ends.Undone = refl
ends_over ends.ChoseCommit = refl
ends_over ends.ChoseRollback = refl
ends_over ends.Forgotten = refl

pub if_there : (o : Option Resource) (r : Resource) (P : Resource → Type 0) → o ≡ Some r → P r → IfSome o P
if_there o r P is h = subst (λ x. IfSome x P) (sym is) h

-- one that is over holds nothing
over_holds_not : (s : State) → is_unfinished s ≡ false → holds s ≡ false
over_holds_not states.Working h = absurd (both_ways _ h refl)
over_holds_not states.Prepared h = absurd (both_ways _ h refl)
over_holds_not _ h = refl

pub over_may : (next before : State) → is_unfinished next ≡ false → MayFollow next before
over_may next before over = record {
  holding = λ h. absurd (both_ways _ (over_holds_not next over) h);
  unfinished = λ h. absurd (both_ways _ over h);
}

pub all_may : (next : State) (o : Option Resource) → is_unfinished next ≡ false → IfSome o (λ r. MayFollow next r.state)
all_may next None over = tt
all_may next (Some r) over = over_may next r.state over

-- one that can put may come to be refused
pub open_unfinished : (s : State) → is_open s ≡ true → is_unfinished s ≡ true
open_unfinished states.Fresh h = refl
open_unfinished states.Working h = refl
open_unfinished _ h = absurd (both_ways _ refl h)

-- one that works may prepare
pub working_may : (s : State) → s ≡ states.Working → MayFollow states.Prepared s
working_may s is = record { holding = λ t. ap holds is; unfinished = λ t. ap is_unfinished is }

pub open_may : (s : State) → is_open s ≡ true → MayFollow states.Refused s
open_may s h = record { holding = λ t. absurd (both_ways _ refl t); unfinished = λ t. open_unfinished s h }

-- ---- what holds of each resource

pub changed_recorded : (standing : List Standing) (s : State) (r : Resource) (c : ContentsState) → AreRecorded standing c.resources
    → IsRecorded standing (r.life, r.number) r → AreRecorded standing (changed s r c).resources
changed_recorded standing s r c all own = all_kept (IsRecorded standing) c.resources (moved s r) all own

pub changed_writable : (drawn : ℕ) (s : State) (r : Resource) (c : ContentsState) → AreWritable drawn c.resources
    → IsWritable drawn s (moved s r) → AreWritable drawn (changed s r c).resources
changed_writable drawn s r c all own = all_kept (λ id x. IsWritable drawn x.state x) c.resources (moved s r) all own

-- one that was found by its number is recorded under its own
pub own_recorded : (standing : List Standing) (k : Id) (rs : List Resource) (r : Resource) → numbered k rs ≡ Some r → AreRecorded standing rs
    → IsRecorded standing (r.life, r.number) r
own_recorded standing k rs r is all =
    subst (λ i. IsRecorded standing i r) (one_number k (r.life, r.number) r (its_number k rs r is) (itself r)) (at_known (numbered k rs) r (IsRecorded standing k) is (all k))

-- a record at its place is that of the resource
pub place_recorded : (standing : List Standing) (s : Standing) (life number : ℕ) (said : List ℕ) (puts : List Put) → AreInOrder standing → Contains standing s
    → s.item ≡ CellsPrepared life number said puts → (rs : List Resource) (r : Resource) → numbered (life, number) rs ≡ Some r
    → prepared_at s.place standing ≡ Some (r.life, r.number)
place_recorded standing s life number said puts order among is rs r there =
    at_its_place standing order s among ∙ ap prepared_id is
    ∙ ap (λ i. Some i) (one_number (life, number) (r.life, r.number) r (its_number (life, number) rs r there) (itself r))
