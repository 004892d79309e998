-- The words of a family that is there may go out, by what each of them rests on.
use Rattle.std.proofs.Common.{◌≡◌, ◌⊎◌, inl, inr, ℕ, zero, suc, ◌<◌, ◌≤◌, ◌==◌, ◌&&◌, ◌||◌, Bool, true, false, is_some, IsTrue, List, [], ◌∷◌, length, map, slice_get, Contains, get_or, Option, Some, None, refl, sym, ap, subst, ◌∙◌, arith}
use Rattle.std.specs.List.{AllByRecursion, list_any, cons_option, filter_map}
use Rattle.std.specs.Option.{option_and_then, option_map_or}
use Rattle.std.proofs.lemmas.Bool.Decides.{nat_tests}
use Rattle.std.proofs.lemmas.List.Elements.{Contains-append_right}
use Rattle.ior_refs.specs.declared.key.ObjectKey.{ObjectKey}
use Rattle.ots_model.specs.Safe.{Stands, IsOf, IsRegistered, TakesPart}
use Rattle.ots_model.specs.SafeByLine.{CanTell}
use Rattle.ots_model.specs.declared.completion.Ground.TheVariants.{Record}
use Rattle.ots_model.specs.declared.completion.Vote.TheVariants.{VoteCommit}
use Rattle.ots_model.specs.declared.completion.Word.{Word as Phase}
use Rattle.ots_model.specs.declared.completion.Word.TheVariants as phase_words
use Rattle.ots_model.specs.declared.line.Line.{Line}
use Rattle.ots_model.specs.declared.line.Line.TheVariants as lines
use Rattle.ots_model.specs.declared.service.RetryKey.{RetryKey}
use Rattle.ots_model.specs.Numbered.{Outcome}
use Rattle.ots_model.specs.declared.completion.Outcome.TheVariants as outcomes
use Rattle.ots_model.specs.declared.tree.Outward.{Outward}
use Rattle.ots_model.specs.declared.tree.Reason.{Reason}
use Rattle.ots_model.specs.declared.tree.Word.TheVariants as words
use Rattle.resource_votes.specs.Ballots.{numbered, participants}
use Rattle.resource_votes.specs.Lists.{list_at}
use Rattle.resource_votes.specs.declared.registration.Registration.{Registration}
use Rattle.two_phase.specs.Course.{Course, outcome}
use Rattle.two_phase.specs.Stages as stages
use Rattle.two_phase.specs.Stages.{Standing, Waiting, Going as UnderWay}
use Rattle.two_phase.specs.declared.party.Party.{Party}
use Rattle.decision_journal.specs.Journal.{found_in}
use Rattle.decision_journal.specs.declared.record.JournalRecord.{JournalRecord}
use Rattle.decision_journal.specs.declared.record.JournalRecord.TheVariants.{Decision}
use Rattle.decision_journal.specs.declared.record.Registration.{Registration as Named}
use Rattle.recovery_coord.specs.Limits.{retold_slot}
use Rattle.coordinator.specs.Family.{Family}
use Rattle.coordinator.specs.Names.{coordinator_kind}
use Rattle.txn_tree.specs.declared.row.Row.{Row}
use Rattle.txn_tree.specs.declared.row.State.TheVariants as rows
use Rattle.coordinator.specs.Node.{Node, is_of}
use Rattle.family_laws.specs.LawsOfSteps.{GoesBack, GoesToParticipant, IsNotAlone, IsRolledBack, Rests}
use Rattle.family_laws.specs.LawsOfTelling.{IsVoted}
use Rattle.family_laws.specs.Sound.{HasParties, IsAsking}
use Rattle.family_laws.specs.Trees as trees
use Rattle.nodes_world.specs.Agreement as agreed
use Rattle.nodes_world.specs.Agreement.{HasSent, IsAlone, IsClosed, IsCutOff, IsDecided, IsTransaction, MayBeRolledBack, has_record, is_decision_of, is_registration_of, names_object, recorded_key, records_at}
use Rattle.nodes_world.specs.AgreementInside.{Known, IsBack, IsBranch, OutcomeIsTold, IsNumberedBy}
use Rattle.nodes_world.specs.declared.thing.Thing.TheVariants as things
use Rattle.nodes_world.specs.Journals.{records_on}
use Rattle.nodes_world.specs.Objects.{place_of, service_at}
use Rattle.nodes_world.specs.Told.{Told, known}
use Rattle.nodes_world.specs.World.{World, Seat, OfNode, NamedKey, family_at, referred, thing}
use Rattle.nodes_world.proofs.KnownLines.{among_back, among_turned, cut_among, joined_of, lines_of, of_one, part_among, registered_among}
use Rattle.nodes_world.proofs.KnownFamilies.{all_at, cut_branch, own_seated, parent_within, participant_of, participant_there, same_family, same_of_branch, same_parts, seated, state_within, takes_part}
use Rattle.nodes_world.proofs.KnownWords.{decision_at, phase_only, rests_of, word_of}
use Rattle.nodes_world.proofs.KnownRequests.{MayGo}
use Rattle.nodes_world.proofs.CanTell.{can_commit, can_go_alone, can_prepare, can_roll_back}

-- ---- one participant alone

same_length : {A B C : Type 0} (f : A → C) (g : B → C) (xs : List A) (ys : List B) → map f xs ≡ map g ys → length xs ≡ length ys
same_length f g [] [] e = refl
same_length f g [] (y ∷ ys) e = absurd cc
same_length f g (x ∷ xs) [] e = absurd cc
same_length f g (x ∷ xs) (y ∷ ys) e = ap suc (same_length f g xs ys (tail_of (f x) (g y) _ _ e))
  where
    tail_of : {C : Type 0} (x y : C) (xs ys : List C) → x ∷ xs ≡ y ∷ ys → xs ≡ ys
    tail_of x y xs ys e = cc

one_of_one : {A : Type 0} (xs : List A) (a b : A) → length xs ≡ 1 → Contains xs a → Contains xs b → a ≡ b
one_of_one [] a b one at_a at_b = let l = at_a.1 in absurd (omega (arith, l))
one_of_one (x ∷ []) a b one at_a at_b = sym (all_at (λ y. x ≡ y) (x ∷ []) a (refl, tt) at_a) ∙ all_at (λ y. x ≡ y) (x ∷ []) b (refl, tt) at_b
one_of_one (x ∷ y ∷ xs) a b one at_a at_b = absurd (omega (arith, one))

one_party : (a : Bool) (n : ℕ) → a && n == 1 ≡ true → n ≡ 1
one_party a n is = grind (arith, nat_tests)

alone_one : (s : Standing) (some : List Registration) → HasParties s some → stages.decides_alone s ≡ true → length some ≡ 1
alone_one (Waiting room) some parties alone = absurd cc
alone_one (UnderWay c) some parties alone =
    sym (same_length (λ (p : Party). p.index) (λ (r : Registration). r.index) c.parties some parties.0) ∙ one_party c.one_phase (length c.parties) alone

not_overtaken_open : (o : Option Reason) (x : Option Outcome)
    → (elim o as (λ _. Option Outcome) [ Some reason ↦ Some (outcomes.Rollback reason) | None ↦ x ]) ≡ None → o ≡ None
not_overtaken_open None x e = refl
not_overtaken_open (Some reason) x e = absurd cc

course_open : (c : Course) → outcome c ≡ None → c.overtaken ≡ None
unfolding outcome
course_open c e = not_overtaken_open c.overtaken _ e

-- one that is to decide alone, and has not yet, asks
open_asking : (s : Standing) → stages.outcome s ≡ None → stages.decides_alone s ≡ true → IsAsking s
open_asking (Waiting room) e alone = absurd cc
open_asking (UnderWay c) e alone = course_open c e

-- ---- the record of a family

-- its decision is among these records
record IsRecorded (rs : List JournalRecord) (key : ObjectKey) : Type 0 where
  retry : Option RetryKey
  asked : Bool
  registrations : List Named
  contains : Contains rs (Decision key.life key.slot key.generation retry asked registrations)

recorded_behind : (r : JournalRecord) (rs : List JournalRecord) (key : ObjectKey) → IsRecorded rs key → IsRecorded (r ∷ rs) key
recorded_behind r rs key d = record {
  retry = d.retry;
  asked = d.asked;
  registrations = d.registrations;
  contains = Contains-append_right (r ∷ []) rs _ d.contains;
}

either : (a b : Bool) → IsTrue (a || b) → IsTrue a ⊎ IsTrue b
either true b is = inl refl
either false b is = inr is

same_three : (a b c x y z : ℕ) → IsTrue (a == x && b == y && c == z) → (a ≡ x) × (b ≡ y) × (c ≡ z)
same_three a b c x y z is = grind (arith, nat_tests)

decision_here : (life slot generation : ℕ) (retry : Option RetryKey) (asked : Bool) (regs : List Named) (rs : List JournalRecord) (key : ObjectKey)
    → IsTrue (life == key.life && slot == key.slot && generation == key.generation) → IsRecorded (Decision life slot generation retry asked regs ∷ rs) key
decision_here life slot generation retry asked regs rs key is =
    let same = same_three life slot generation key.life key.slot key.generation is in
    let item : Decision life slot generation retry asked regs ≡ Decision key.life key.slot key.generation retry asked regs =
    ap (λ n. Decision n slot generation retry asked regs) same.0 ∙ ap (λ n. Decision key.life n generation retry asked regs) same.1
    ∙ ap (λ n. Decision key.life key.slot n retry asked regs) same.2 in
    record { retry = retry; asked = asked; registrations = regs; contains = (0, omega arith, item) }

recorded_in : (rs : List JournalRecord) (key : ObjectKey) → IsTrue (list_any (is_decision_of key) rs) → IsRecorded rs key
recorded_in [] key is = absurd cc
recorded_in (Decision life slot generation retry asked regs ∷ rs) key is =
    elim (either (is_decision_of key (Decision life slot generation retry asked regs)) (list_any (is_decision_of key) rs) is) [
      | inl here ↦ decision_here life slot generation retry asked regs rs key here
      | inr there ↦ recorded_behind (Decision life slot generation retry asked regs) rs key (recorded_in rs key there)
    ]
recorded_in (r ∷ rs) key is = recorded_behind r rs key (recorded_in rs key is)

record IsRecordedAt (w : World) (place : ℕ) (key : ObjectKey) : Type 0 where
  records : List JournalRecord
  held : records_at w place ≡ Some records
  decision : IsRecorded records key

recorded_at : (w : World) (place : ℕ) (key : ObjectKey) → IsTrue (has_record w place (is_decision_of key)) → IsRecordedAt w place key
recorded_at w place key is = by (records_at w place) refl is
  where
    by : (o : Option (List JournalRecord)) → records_at w place ≡ o
        → IsTrue (option_map_or (λ (rs : List JournalRecord). list_any (is_decision_of key) rs) o false) → IsRecordedAt w place key
    by None held is = absurd cc
    by (Some rs) held is = record { records = rs; held = held; decision = recorded_in rs key is }

or_right : (a b : Bool) → IsTrue b → IsTrue (a || b)
or_right true b is = refl
or_right false b is = is

or_left : (a b : Bool) → IsTrue a → IsTrue (a || b)
or_left true b is = refl
or_left false b is = absurd cc

pub any_of : {A : Type 0} (test : A → Bool) (xs : List A) (x : A) → Contains xs x → IsTrue (test x) → IsTrue (list_any test xs)
any_of {A = A} test xs x c is = go xs c.0 c.1 c.2
  where
    go : (ys : List A) (i : ℕ) → i < length ys → get_or ys i x ≡ x → IsTrue (list_any test ys)
    go [] i l e = absurd (omega (arith, l))
    go (y ∷ ys) zero l e = or_left (test y) (list_any test ys) (subst (λ (z : A). IsTrue (test z)) (sym e) is)
    go (y ∷ ys) (suc i) l e = or_right (test y) (list_any test ys) (go ys i (omega (arith, l)) e)

-- the disk names an object where its decision does
named_at : (w : World) (place : ℕ) (key : ObjectKey) (to : List ℕ) (d : IsRecordedAt w place key) → IsTrue (list_any (is_registration_of to) d.decision.registrations)
    → IsTrue (has_record w place (names_object to))
named_at w place key to d is =
    subst (λ (o : Option (List JournalRecord)). IsTrue (option_map_or (λ (rs : List JournalRecord). list_any (names_object to) rs) o false)) (sym d.held)
    (any_of (names_object to) d.records _ d.decision.contains is)

-- ---- small facts

outcome_open : (s : Option Outcome) (name : List ℕ) (h : List Line) → s ≡ None → OutcomeIsTold s name h → Stands (lines.Decide name (outcomes.Commit Record)) h → ⊥
outcome_open None name h is told = told
outcome_open (Some fixed) name h is told = absurd cc

outcome_commits : (s : Option Outcome) (name : List ℕ) (h : List Line) → s ≡ Some (outcomes.Commit Record) → OutcomeIsTold s name h
    → Stands (lines.Decide name (outcomes.Commit Record)) h
outcome_commits None name h is told = absurd cc
outcome_commits (Some (outcomes.Commit basis)) name h is told =
    subst (λ g. Stands (lines.Decide name (outcomes.Commit g)) h) (inner is) told
  where
    inner : {a b : _} → ◌≡◌ {A = Option Outcome} (Some (outcomes.Commit a)) (Some (outcomes.Commit b)) → a ≡ b
    inner e = cc
outcome_commits (Some (outcomes.Rollback reason)) name h is told = absurd cc
outcome_commits (Some outcomes.Unknown) name h is told = absurd cc

back_of : (s : Option Outcome) → IsRolledBack s → IsBack s
back_of None back = back
back_of (Some (outcomes.Commit basis)) back = back
back_of (Some (outcomes.Rollback reason)) back = back
back_of (Some outcomes.Unknown) back = back

slot_within : {A : Type 0} (xs : List (Option A)) (i : ℕ) (x : A) → option_and_then (λ (o : Option A). o) (slice_get xs i) ≡ Some x → i < length xs
slot_within [] i x e = absurd cc
slot_within (y ∷ xs) zero x e = omega arith
slot_within (y ∷ xs) (suc i) x e = let l = slot_within xs i x e in omega (arith, l)

has_at : {A : Type 0} (xs : List A) (i : ℕ) (x : A) → slice_get xs i ≡ Some x → Contains xs x
has_at [] i x e = absurd cc
has_at (y ∷ xs) zero x e = (0, omega arith, inner e)
  where
    inner : {A : Type 0} {x y : A} → Some x ≡ Some y → x ≡ y
    inner e = cc
has_at (y ∷ xs) (suc i) x e = Contains-append_right (y ∷ []) xs x (has_at xs i x e)

numbered_entered : (rs : List Registration) (i : ℕ) (r : Registration) → numbered rs i ≡ Some r → Contains rs r
numbered_entered rs zero r e = absurd cc
numbered_entered rs (suc i) r e = has_at rs i r e

cons_entered : (rs : List Registration) (o : Option Registration) (some : List Registration) → ((r : Registration) → o ≡ Some r → Contains rs r)
    → AllByRecursion (Contains rs) some → AllByRecursion (Contains rs) (cons_option o some)
cons_entered rs None some at all = all
cons_entered rs (Some r) some at all = (at r refl, all)

-- participants are registered
all_entered : (rs : List Registration) (numbers : List ℕ) → AllByRecursion (Contains rs) (filter_map (numbered rs) numbers)
all_entered rs [] = tt
all_entered rs (i ∷ numbers) = cons_entered rs (numbered rs i) (filter_map (numbered rs) numbers) (numbered_entered rs i) (all_entered rs numbers)

cut_within : (rs : List Row) (b : ℕ) → trees.IsCutOff rs b → b < length rs
cut_within rs _ (trees.IsCutOff.itself b undone) = state_within rs b rows.RolledBack undone
cut_within rs _ (trees.IsCutOff.above b p up off) = parent_within rs b p up

-- ---- a word of a family that is there

-- it has the next number of the family, which no word had
pub record IsNextWord (w : World) (f : Family) (o : Outward) : Type 0 where
  pub life : o.number.life ≡ f.key.life
  pub slot : o.number.slot ≡ f.key.slot
  pub generation : o.number.generation ≡ f.key.generation
  pub numbered : IsNumberedBy f o
  pub newer : (other : Outward) → HasSent w (place_of f.key) other → other.number ≡ o.number → ⊥

module _ (w : World) (told : List Told) (k : Known w told) (key : ObjectKey) (f : Family) (there : family_at w key ≡ Some f) where
  own_key : recorded_key (place_of f.key) f.key.life f.key.slot f.key.generation ≡ f.key
  own_key =
      let s = own_seated w key f (seated w key f there) in
      let follows = k.disks.follows (place_of f.key) s.seat s.node s.there s.up in
      let whole = (k.disks.whole (place_of f.key) s.seat s.node s.there s.up).families f.key.slot f s.slotted in
      let known_family = k.families key f there in
      ap (λ (n : ℕ). record f.key { kind = coordinator_kind; service = service_at (place_of f.key); index = n }) (sym known_family.top)
      ∙ ap (λ (n : ℕ). record f.key { kind = coordinator_kind; service = n }) (sym (whole.of_service ∙ follows.service))
      ∙ ap (λ (n : ℕ). record f.key { kind = n }) (sym (k.names.kinds known_family.name f.key known_family.of_name))

  -- where it commits by a record, the record names a participant that voted commit
  record_names : (r : Registration) (x : NamedKey) → Contains (participants 0 f.ballots) r → Contains f.ballots.registrations r → referred w r.to ≡ Some x
      → stages.outcome f.completion ≡ Some (outcomes.Commit Record) → IsVoted f.completion r.index VoteCommit
      → IsTrue (has_record w (place_of f.key) (names_object r.to))
  record_names r x among entered refers commits voted =
      let known_family = k.families key f there in
      let d = recorded_at w (place_of f.key) f.key (known_family.recorded.1 commits) in
      let rests = k.records (place_of f.key) f.key.life f.key.slot f.key.generation d.decision.retry d.decision.asked d.decision.registrations d.records d.held
      d.decision.contains in
      let named = subst (λ (y : ObjectKey). IsTransaction w rests.name y) own_key rests.of_name in
      let same : known_family.name ≡ rests.name = k.names.keys known_family.name rests.name _ known_family.of_name named in
      let part = part_among (lines_of told) (known told) x.name known_family.name (among_back (known told)) (takes_part w told k key f there r x among refers) in
      let vote = among_back (known told) _ ((known_family.votes r.index VoteCommit r x entered refl refers).0 voted) in
      named_at w (place_of f.key) f.key r.to d
      ((rests.voters r.to x refers).1 (subst (λ (y : List ℕ). TakesPart x.name y (known told)) same part, vote))

  -- a family with that branch is this one
  same_one : (x : List ℕ) (b : ℕ) (t u : List ℕ) (c : ℕ) (other : ObjectKey) (g : Family) → IsBranch w f t b → IsRegistered x t (lines_of told)
      → IsRegistered x u (lines_of told) → family_at w other ≡ Some g → IsBranch w g u c → f ≡ g
  same_one x b t u c other g branch registered also at branch_of_g =
      let same : t ≡ u = k.names.one_transaction x t u registered also in
      let key_same : branch.0 ≡ branch_of_g.0 = inner (sym branch.1 ∙ ap (thing w) same ∙ branch_of_g.1) in
      same_of_branch w key other branch_of_g.0 f g there at (subst (λ (y : ObjectKey). IsTrue (is_of y f)) key_same branch.2) branch_of_g.2
    where
      inner : {a b : ObjectKey} → Some (things.Transaction a) ≡ Some (things.Transaction b) → a ≡ b
      inner e = cc

  -- its only participant is alone
  alone_in : (r : Registration) (x : NamedKey) → Contains (participants 0 f.ballots) r → referred w r.to ≡ Some x → stages.outcome f.completion ≡ None
      → stages.decides_alone f.completion ≡ true → IsAlone w told x.name
  alone_in r x among refers undecided alone =
      let known_family = k.families key f there in
      let one = alone_one f.completion (participants 0 f.ballots) known_family.sound.completion.parties alone in
      record {
        family = known_family.name;
        key = f.key;
        of_name = known_family.of_name;
        participant = part_among (lines_of told) (known told) x.name known_family.name (among_back (known told)) (takes_part w told k key f there r x among refers);
        only = λ p part.
            let at = participant_there w told k key f there p (part_among (known told) (lines_of told) p known_family.name (among_turned (known told)) part) in
            let same_r : at.0 ≡ r = one_of_one (participants 0 f.ballots) at.0 r one at.2 among in
            let same_x : at.1 ≡ x = inner (sym at.3 ∙ ap (λ (y : Registration). referred w y.to) same_r ∙ refers) in
            sym at.4 ∙ ap (λ (y : NamedKey). y.name) same_x;
        unrecorded = undecided_by known_family.name known_family.outcome known_family.recorded.0;
      }
    where
      inner : {a b : NamedKey} → Some a ≡ Some b → a ≡ b
      inner e = cc

      no : {A : Type 0} {x : A} → None ≡ Some x → ⊥
      no e = absurd cc

      undecided_by : (name : List ℕ) → OutcomeIsTold (stages.outcome f.completion) name (lines_of told)
          → (IsTrue (has_record w (place_of f.key) (is_decision_of f.key)) → stages.outcome f.completion ≡ Some (outcomes.Commit Record))
          → IsDecided w told f.key name → ⊥
      undecided_by name outcome recorded (inl s) = outcome_open (stages.outcome f.completion) name (lines_of told) undecided outcome (among_turned (known told) _ s)
      undecided_by name outcome recorded (inr has) = no (sym undecided ∙ recorded has)

  -- the keys of its branches are its own, but for the index
  pub first_key : (t : List ℕ) (b : ℕ) (branch : IsBranch w f t b) → record branch.0 { index = 0 } ≡ f.key
  first_key t b branch =
      let known_family = k.families key f there in
      let a = branch.0 in
      let same = same_parts a.service a.life a.slot a.generation f.key.service f.key.life f.key.slot f.key.generation branch.2 in
      let kind = k.names.kinds t a branch.1 ∙ sym (k.names.kinds known_family.name f.key known_family.of_name) in
      ap (λ (n : ℕ). record a { index = 0; kind = n }) kind
      ∙ ap (λ (n : ℕ). record a { index = 0; kind = f.key.kind; service = n }) same.0
      ∙ ap (λ (n : ℕ). record a { index = 0; kind = f.key.kind; service = f.key.service; life = n }) same.1
      ∙ ap (λ (n : ℕ). record a { index = 0; kind = f.key.kind; service = f.key.service; life = f.key.life; slot = n }) same.2
      ∙ ap (λ (n : ℕ). record f.key { index = 0; generation = n }) same.3
      ∙ ap (λ (n : ℕ). record f.key { index = n }) (sym known_family.top)

  -- one that goes back may be rolled back
  back_of_branch : (x : NamedKey) (t : List ℕ) (b : ℕ) (branch : IsBranch w f t b) → IsRegistered x.name t (lines_of told)
      → (IsClosed w told f.key (k.families key f there).name ⊎ IsCutOff (known told) t) → MayBeRolledBack w told x.name
  back_of_branch x t b branch registered over =
      let known_family = k.families key f there in
      let own = sym (first_key t b branch) in
      record {
        transaction = t;
        key = branch.0;
        named = branch.1;
        registered = registered_among (lines_of told) (known told) x.name t (among_back (known told)) registered;
        top = known_family.name;
        family = subst (IsTransaction w known_family.name) own known_family.of_name;
        over = subst (λ (y : ObjectKey). IsClosed w told y known_family.name ⊎ IsCutOff (known told) t) own over;
      }

  may_go_back : (o : Outward) (x : NamedKey) (g : GoesBack f.completion f.ballots f.rows o) → (c : ℕ) × Contains (participants c f.ballots) g.r
      → referred w o.to ≡ Some x → MayBeRolledBack w told x.name
  may_go_back o x g listed refers = by g.over
    where
      by : ((IsRolledBack (stages.outcome f.completion) × IsNotAlone f.completion × Contains (participants 0 f.ballots) g.r) ⊎ trees.IsCutOff f.rows g.r.branch)
          → MayBeRolledBack w told x.name
      by (inl back) =
          let known_family = k.families key f there in
          let at = participant_of w told k key f there g.r x back.2 (ap (referred w) g.reference ∙ refers) in
          back_of_branch x at.0 g.r.branch at.1 at.2
          (inl (agreed.IsClosed.rolled_back (k.told_back known_family.name key f there known_family.of_name (back_of (stages.outcome f.completion) back.0))))
      by (inr off) =
          let known_family = k.families key f there in
          let at = known_family.branches g.r.branch (cut_within f.rows g.r.branch off) in
          back_of_branch x at.0 g.r.branch at.1
          ((known_family.registrations x.name at.0 g.r.branch at.1).1 (listed.0, g.r, x, listed.1, refl, ap (referred w) g.reference ∙ refers, refl))
          (inr (cut_among (lines_of told) (known told) at.0 (among_back (known told)) (cut_branch w told k key f there g.r.branch at.0 off at.1)))

  -- ---- what a word of it needs

  has_life : (rs : List JournalRecord) → records_at w (place_of f.key) ≡ Some rs → f.key.life ≡ (found_in rs).life
  has_life rs held =
      let s = own_seated w key f (seated w key f there) in
      let follows = k.disks.follows (place_of f.key) s.seat s.node s.there s.up in
      let whole = (k.disks.whole (place_of f.key) s.seat s.node s.there s.up).families f.key.slot f s.slotted in
      let own : records_at w (place_of f.key) ≡ Some follows.records =
      ap (λ (o : Option Seat). option_and_then (λ (y : Seat). records_on (service_at (place_of f.key)) y.disk) o) s.there ∙ follows.held in
      whole.of_life ∙ ap (λ y. y.life) follows.found ∙ ap (λ (y : List JournalRecord). (found_in y).life) (inner (sym own ∙ held))
    where
      inner : {a b : List JournalRecord} → Some a ≡ Some b → a ≡ b
      inner e = cc

  is_given : (s : Seat) (n : Node) → slice_get w.seats (place_of f.key) ≡ Some s → s.server ≡ OfNode (Some n) → f.key.generation ≤ n.generation
  is_given s n at up =
      let own = own_seated w key f (seated w key f there) in
      let same_seat : own.seat ≡ s = inner (sym own.there ∙ at) in
      let same_node : own.node ≡ n = node_of (sym own.up ∙ ap (λ (y : Seat). y.server) same_seat ∙ up) in
      subst (λ (y : Node). f.key.generation ≤ y.generation) same_node
      ((k.disks.whole (place_of f.key) own.seat own.node own.there own.up).families f.key.slot f own.slotted).given
    where
      inner : {a b : Seat} → Some a ≡ Some b → a ≡ b
      inner e = cc

      node_of : {a b : Node} → OfNode (Some a) ≡ OfNode (Some b) → a ≡ b
      node_of e = cc

  pub in_slot : f.key.slot ≡ retold_slot → ⊥
  in_slot is =
      let own = own_seated w key f (seated w key f there) in
      let slots = (k.disks.whole (place_of f.key) own.seat own.node own.there own.up).slots in
      let within = slot_within own.node.families f.key.slot f own.slotted in
      omega (arith, within, slots, is)

  module _ (o : Outward) (x : NamedKey) (refers : referred w o.to ≡ Some x) (rests : Rests f.completion f.ballots f.rows o) where
    commit_recorded : o.word ≡ words.Phase phase_words.Commit → IsTrue (has_record w (place_of f.key) (names_object o.to))
    commit_recorded word =
        let at = rests.asks.commit word in
        let g = at.0 in
        let entered = all_at (Contains f.ballots.registrations) (participants 0 f.ballots) g.r
        (all_entered f.ballots.registrations (list_at f.ballots.lists 0)) g.there in
        subst (λ (to : List ℕ). IsTrue (has_record w (place_of f.key) (names_object to))) g.reference
        (record_names g.r x g.there entered (ap (referred w) g.reference ∙ refers) at.1 (subst (λ (y : ℕ). IsVoted f.completion y VoteCommit) (sym g.number) at.2))

    commit_allowed : o.word ≡ words.Phase phase_words.Commit → CanTell phase_words.Commit x.name (lines_of told)
    commit_allowed word =
        let known_family = k.families key f there in
        let at = rests.asks.commit word in
        let d = decision_at w (place_of f.key) o.to (commit_recorded word) in
        let of = rests_of w told k (place_of f.key) o.to d in
        let part = part_among (known told) (lines_of told) x.name of.name (among_turned (known told)) ((of.voters o.to x refers).0 d.decision.named).0 in
        let own = takes_part w told k key f there at.0.r x at.0.there (ap (referred w) at.0.reference ∙ refers) in
        let same_t = k.names.one_transaction x.name own.0 part.0 own.1 part.1 in
        let u = k.names.registered x.name part.0 part.1 in
        let mine = subst (IsOf (lines_of told) known_family.name) same_t (joined_of (lines_of told) known_family.name own.0 own.2) in
        let same : of.name ≡ known_family.name = of_one w told k of.name known_family.name part.0 u.1 (joined_of (lines_of told) of.name part.0 part.2) mine u.3 in
        can_commit w told k (place_of f.key) o.to x d known_family.name refers
        (subst (λ (name : List ℕ). IsTransaction w name (recorded_key (place_of f.key) d.decision.life d.decision.slot d.decision.generation)) same of.of_name)
        (outcome_commits (stages.outcome f.completion) known_family.name (lines_of told) at.1 known_family.outcome)

    word_allowed : (phase : Phase) → o.word ≡ word_of phase → CanTell phase x.name (lines_of told)
    word_allowed phase_words.Prepare word = can_prepare w told k key f there o x (rests.asks.prepare word).0 refers
    word_allowed phase_words.Commit word = commit_allowed word
    word_allowed phase_words.CommitOnePhase word = let at = rests.asks.alone word in can_go_alone w told k key f there o x at.0 at.1 refers
    word_allowed phase_words.Rollback word = can_roll_back w told k key f there o x (rests.back word) refers

    -- a family that has one to whom it goes is this one
    goes_to_own : GoesToParticipant f.ballots o → (t : List ℕ) (b : ℕ) (other : ObjectKey) (g : Family) → IsRegistered x.name t (lines_of told)
        → family_at w other ≡ Some g → IsBranch w g t b → f ≡ g
    goes_to_own goes t b other g registered at branch =
        let own = participant_of w told k key f there goes.r x goes.there (ap (referred w) goes.reference ∙ refers) in
        same_one x.name goes.r.branch own.0 t b other g own.1 own.2 registered at branch

    pub family_may_go : IsNextWord w f o → MayGo w told (place_of f.key) o
    family_may_go next = record {
      resource = x;
      refers = refers;
      allowed = λ phase is. word_allowed phase (phase_only o.word phase is);
      seat = ap is_some (own_seated w key f (seated w key f there)).there;
      object = λ other sent same. absurd (next.newer other sent same);
      fresh = λ other sent same. absurd (next.newer other sent same);
      life = λ rs held. let own = has_life rs held in omega (arith, own, next.life);
      given = λ s n at up alike. inr (subst (λ (y : ℕ). y ≤ n.generation) (sym next.generation) (is_given s n at up));
      told_again = λ rs again held. absurd (in_slot (sym next.slot ∙ again));
      serial = λ g other at life slot generation place.
          subst (λ (y : Family). IsNumberedBy y o) (same_family w key other f g there at (sym place) (sym next.slot ∙ slot)) next.numbered;
      recorded = commit_recorded;
      commits = λ word t b other g registered at branch.
          let own = rests.asks.commit word in
          subst (λ (y : Family). stages.outcome y.completion ≡ Some (outcomes.Commit Record)) (goes_to_own own.0 t b other g registered at branch) own.1;
      asks = λ word t b other g registered at branch.
          let own = rests.asks.alone word in
          subst (λ (y : Family). IsAsking y.completion × (stages.decides_alone y.completion ≡ true)) (goes_to_own own.0 t b other g registered at branch)
          (open_asking f.completion own.1 own.2, own.2);
      alone = λ word. let own = rests.asks.alone word in alone_in own.0.r x own.0.there (ap (referred w) own.0.reference ∙ refers) own.1 own.2;
      back = λ word. let g = rests.back word in may_go_back o x g (g.listed.branch, g.listed.there) refers;
    }
