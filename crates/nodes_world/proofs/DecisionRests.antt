-- The decision record of a family each of whose participants has consented rests on their votes: it names exactly those that have
-- voted commit.
use Rattle.std.proofs.Common.{◌≡◌, ◌⊎◌, inl, inr, ℕ, zero, suc, ◌&&◌, Bool, true, false, IsTrue, is_some, cond, List, [], ◌∷◌, map, filter, Contains, Option, Some, None, refl, sym, ap, subst, ◌∙◌, arith}
use Rattle.std.specs.List.{AllByRecursion, list_all, list_any}
use Rattle.std.proofs.lemmas.List.Elements.{Contains-append_right}
use Rattle.std.proofs.lemmas.List.Folds.{Any-from_list_any, list_any-from_Any}
use Rattle.std.proofs.lemmas.Slice.Eq.{bytes_eq-Decides}
use Rattle.ior_refs.specs.declared.key.ObjectKey.{ObjectKey}
use Rattle.ots_model.specs.Safe.{Stands, HasConsented, TakesPart}
use Rattle.ots_model.specs.declared.completion.Heard.{Heard}
use Rattle.ots_model.specs.declared.completion.Heard.TheVariants as phase_hears
use Rattle.ots_model.specs.declared.completion.Vote.{Vote}
use Rattle.ots_model.specs.declared.completion.Vote.TheVariants.{VoteCommit, VoteReadOnly, VoteRollback}
use Rattle.ots_model.specs.declared.line.Line.TheVariants as lines
use Rattle.resource_votes.specs.Ballots.{participants}
use Rattle.resource_votes.specs.declared.registration.Registration.{Registration}
use Rattle.two_phase.specs.Course.{Course}
use Rattle.two_phase.specs.Parties.{has_consented, has_voted_commit}
use Rattle.two_phase.specs.Stages.{Going as UnderWay}
use Rattle.two_phase.specs.declared.party.Party.{Party}
use Rattle.decision_journal.specs.declared.record.Registration.{Registration as Named}
use Rattle.coordinator.specs.Family.{Family}
use Rattle.coordinator.specs.Hearing.{recorded}
use Rattle.family_laws.specs.LawsOfTelling.{IsVoted}
use Rattle.family_laws.specs.Sound.{HasParties}
use Rattle.nodes_world.specs.Agreement.{RestsOnVotes, is_registration_of}
use Rattle.nodes_world.specs.AgreementInside.{Known, FamilyIsKnown}
use Rattle.nodes_world.specs.Happenings.{cast_of}
use Rattle.nodes_world.specs.Told.{Told, known}
use Rattle.nodes_world.specs.World.{World, NamedKey, family_at, referred}
use Rattle.nodes_world.proofs.AskedCounts.{IsRegisteredAs}
use Rattle.nodes_world.proofs.DecisionFits.{all_registered}
use Rattle.nodes_world.proofs.KnownFamilies.{all_at, participant_there, takes_part}
use Rattle.nodes_world.proofs.KnownLines.{among_back, among_turned, lines_of, part_among}
use Rattle.nodes_world.proofs.NamedVotes.{one_index, one_reference}
use Rattle.nodes_world.proofs.RulesKeep.{registered_of}
use Rattle.nodes_world.proofs.SoundNodes.{all_of}

-- ---- votes

abbrev IsConsent : Option Heard → Type 0
IsConsent b = (b ≡ Some (phase_hears.Voted VoteCommit)) ⊎ (b ≡ Some (phase_hears.Voted VoteReadOnly))

consent_is : (p : Party) (b : Option Heard) → p.ballot ≡ b → has_consented p ≡ true → IsConsent b
consent_is p b is consents = by b (sym (ap (λ (x : Option Heard). has_consented (record p { ballot = x })) is) ∙ consents)
  where
    by : (b : Option Heard) → has_consented (record p { ballot = b }) ≡ true → IsConsent b
    by (Some (phase_hears.Voted VoteCommit)) so = inl refl
    by (Some (phase_hears.Voted VoteReadOnly)) so = inr refl
    by (Some (phase_hears.Voted VoteRollback)) so = absurd cc
    by (Some _) so = absurd cc
    by None so = absurd cc

commit_is : (p : Party) (b : Option Heard) → p.ballot ≡ b → has_voted_commit p ≡ true → b ≡ Some (phase_hears.Voted VoteCommit)
commit_is p b is commits = by b (sym (ap (λ (x : Option Heard). has_voted_commit (record p { ballot = x })) is) ∙ commits)
  where
    by : (b : Option Heard) → has_voted_commit (record p { ballot = b }) ≡ true → b ≡ Some (phase_hears.Voted VoteCommit)
    by (Some (phase_hears.Voted VoteCommit)) so = refl
    by (Some (phase_hears.Voted VoteReadOnly)) so = absurd cc
    by (Some (phase_hears.Voted VoteRollback)) so = absurd cc
    by (Some _) so = absurd cc
    by None so = absurd cc

all_consented : (ps : List Party) (p : Party) → list_all has_consented ps ≡ true → Contains ps p → has_consented p ≡ true
all_consented [] p all (i, less, is) = absurd (omega (arith, less))
all_consented (x ∷ ps) p all (zero, less, is) = ap has_consented (sym is) ∙ first_of (has_consented x) (list_all has_consented ps) all
  where
    first_of : (a b : Bool) → (a && b) ≡ true → a ≡ true
    first_of true b so = refl
    first_of false b so = absurd cc
all_consented (x ∷ ps) p all (suc i, less, is) = all_consented ps p (second_of (has_consented x) (list_all has_consented ps) all) (i, omega (arith, less), is)
  where
    second_of : (a b : Bool) → (a && b) ≡ true → b ≡ true
    second_of true b so = so
    second_of false b so = absurd cc

-- ---- who is named

behind_one : {A : Type 0} (x : A) (xs : List A) (y : A) → Contains xs y → Contains (x ∷ xs) y
behind_one x xs y c = Contains-append_right (x ∷ []) xs y c

-- one that the record names has voted commit
pub record IsNamedIn (ps : List Party) (x : Named) : Type 0 where
  pub p : Party
  pub there : Contains ps p
  pub commits : has_voted_commit p ≡ true
  pub same : recorded p ≡ x

pub named_from : (ps : List Party) (x : Named) → Contains (map recorded (filter has_voted_commit ps)) x → IsNamedIn ps x
named_from [] x c = let l = c.1 in absurd (omega (arith, l))
named_from (p ∷ ps) x c = by (λ later. named_from ps x later) (has_voted_commit p) refl c
  where
    further : IsNamedIn ps x → IsNamedIn (p ∷ ps) x
    further one = record { p = one.p; there = behind_one p ps one.p one.there; commits = one.commits; same = one.same }

    first : has_voted_commit p ≡ true → (Contains (map recorded (filter has_voted_commit ps)) x → IsNamedIn ps x)
        → Contains (recorded p ∷ map recorded (filter has_voted_commit ps)) x → IsNamedIn (p ∷ ps) x
    first commits rest (zero, less, is) = record { p = p; there = (0, omega arith, refl); commits = commits; same = is }
    first commits rest (suc i, less, is) = further (rest (i, omega (arith, less), is))

    by : (Contains (map recorded (filter has_voted_commit ps)) x → IsNamedIn ps x) → (t : Bool) → has_voted_commit p ≡ t
        → Contains (map recorded (cond t (p ∷ filter has_voted_commit ps) (filter has_voted_commit ps))) x → IsNamedIn (p ∷ ps) x
    by rest true is among = first is rest among
    by rest false is among = further (rest among)

named_to : (ps : List Party) (p : Party) → Contains ps p → has_voted_commit p ≡ true → Contains (map recorded (filter has_voted_commit ps)) (recorded p)
named_to [] p (i, less, is) commits = absurd (omega (arith, less))
named_to (x ∷ ps) p (zero, less, is) commits =
    subst (λ (t : Bool). Contains (map recorded (cond t (x ∷ filter has_voted_commit ps) (filter has_voted_commit ps))) (recorded p)) (sym (ap has_voted_commit is ∙ commits))
    (0, omega arith, ap recorded is)
named_to (x ∷ ps) p (suc i, less, is) commits = by (has_voted_commit x) (named_to ps p (i, omega (arith, less), is) commits)
  where
    by : (t : Bool) → Contains (map recorded (filter has_voted_commit ps)) (recorded p)
        → Contains (map recorded (cond t (x ∷ filter has_voted_commit ps) (filter has_voted_commit ps))) (recorded p)
    by true c = behind_one (recorded x) (map recorded (filter has_voted_commit ps)) (recorded p) c
    by false c = c

-- ---- participants

-- a registration takes part in a completion
record IsPartyOf (all : List Party) (r : Registration) : Type 0 where
  p : Party
  there : Contains all p
  index : p.index ≡ r.index

all_take_part : (all ps : List Party) (rs : List Registration) → map (λ (p : Party). p.index) ps ≡ map (λ (r : Registration). r.index) rs → AllByRecursion (Contains all) ps
    → AllByRecursion (IsPartyOf all) rs
all_take_part all ps [] numbers there = tt
all_take_part all [] (r ∷ rs) numbers there = absurd cc
all_take_part all (p ∷ ps) (r ∷ rs) numbers (one, there) =
    (record { p = p; there = one; index = head_of numbers }, all_take_part all ps rs (tail_of numbers) there)
  where
    head_of : {a b : ℕ} {xs ys : List ℕ} → a ∷ xs ≡ b ∷ ys → a ≡ b
    head_of e = cc

    tail_of : {a b : ℕ} {xs ys : List ℕ} → a ∷ xs ≡ b ∷ ys → xs ≡ ys
    tail_of e = cc

each_itself : {A : Type 0} (xs : List A) → AllByRecursion (Contains xs) xs
each_itself xs = all_of (Contains xs) xs (λ x c. c)

-- ---- the record

module _ (w : World) (told : List Told) (k : Known w told) (key : ObjectKey) (f : Family) (found : family_at w key ≡ Some f) (c : Course) (going : f.completion ≡ UnderWay c)
    (all : list_all has_consented c.parties ≡ true) where
  abbrev old : FamilyIsKnown w (lines_of told) f
  old = k.families key f found

  abbrev some : List Registration
  some = participants 0 f.ballots

  abbrev pub voted_commit : List Named
  voted_commit = map recorded (filter has_voted_commit c.parties)

  parties : HasParties (UnderWay c) some
  parties = subst (λ (s : _). HasParties s some) going old.sound.completion.parties

  as_registered : (p : Party) → Contains c.parties p → IsRegisteredAs some p
  as_registered p among = all_at (IsRegisteredAs some) c.parties p (all_registered some c.parties some parties.0 parties.1 (each_itself some)) among

  as_party : (r : Registration) → Contains some r → IsPartyOf c.parties r
  as_party r among = all_at (IsPartyOf c.parties) some r (all_take_part c.parties c.parties some parties.0 (each_itself c.parties)) among

  registered : (r : Registration) → Contains some r → Contains f.ballots.registrations r
  registered r among = all_at (Contains f.ballots.registrations) some r (registered_of f 0) among

  one_number : (r s : Registration) → Contains some r → Contains some s → r.index ≡ s.index → r ≡ s
  one_number r s one other same =
      one_index w told k key f found (cast_of f) (record { key = refl; registrations = refl }) r s (registered r one) (registered s other) same

  -- what a participant has voted is told
  vote_told : (r : Registration) (x : NamedKey) (p : Party) (vote : Vote) → Contains some r → referred w r.to ≡ Some x → Contains c.parties p → p.index ≡ r.index
      → p.ballot ≡ Some (phase_hears.Voted vote) → Stands (lines.Voted x.name vote) (known told)
  vote_told r x p vote among leads there index ballot =
      among_back (known told) _ ((old.votes r.index vote r x (registered r among) refl leads).0
      (subst (λ (s : _). IsVoted s r.index vote) (sym going) (there.0, p, there.1, there.2, (index, ballot))))

  consented : (g : List ℕ) → TakesPart g old.name (known told) → HasConsented g (known told)
  consented g part =
      let at = participant_there w told k key f found g (part_among (known told) (lines_of told) g old.name (among_turned (known told)) part) in
      let taking = as_party at.0 at.2 in
      elim (consent_is taking.p taking.p.ballot refl (all_consented c.parties taking.p all taking.there)) [
        | inl commit ↦ inl (subst (λ (y : List ℕ). Stands (lines.Voted y VoteCommit) (known told)) at.4
            (vote_told at.0 at.1 taking.p VoteCommit at.2 at.3 taking.there taking.index commit))
        | inr read_only ↦ inr (subst (λ (y : List ℕ). Stands (lines.Voted y VoteReadOnly) (known told)) at.4
            (vote_told at.0 at.1 taking.p VoteReadOnly at.2 at.3 taking.there taking.index read_only))
      ]

  -- one that is named by its reference
  record IsNamedBy (to : List ℕ) : Type 0 where
    p : Party
    there : Contains c.parties p
    commits : has_voted_commit p ≡ true
    reference : p.to ≡ to

  named_by : (to : List ℕ) → IsTrue (list_any (is_registration_of to) voted_commit) → IsNamedBy to
  named_by to is =
      let any = Any-from_list_any (is_registration_of to) voted_commit is in
      let one = named_from c.parties any.1 (any.0, any.2, any.3) in
      record {
        p = one.p;
        there = one.there;
        commits = one.commits;
        reference = ap (λ (x : Named). x.reference) one.same ∙ (bytes_eq-Decides any.1.reference to).0 any.4;
      }

  named : (to : List ℕ) → IsTrue (list_any (is_registration_of to) voted_commit) → IsTrue (is_some (referred w to))
  named to is =
      let one = named_by to is in
      let as_one = as_registered one.p one.there in
      subst (λ (x : List ℕ). IsTrue (is_some (referred w x))) (as_one.reference ∙ one.reference) (old.named as_one.r (registered as_one.r as_one.there))

  voters_from : (to : List ℕ) (r : NamedKey) → referred w to ≡ Some r → IsTrue (list_any (is_registration_of to) voted_commit)
      → TakesPart r.name old.name (known told) × Stands (lines.Voted r.name VoteCommit) (known told)
  voters_from to r leads is =
      let one = named_by to is in
      let as_one = as_registered one.p one.there in
      let leads_so : referred w as_one.r.to ≡ Some r = ap (referred w) (as_one.reference ∙ one.reference) ∙ leads in (
        part_among (lines_of told) (known told) r.name old.name (among_back (known told)) (takes_part w told k key f found as_one.r r as_one.there leads_so),
        vote_told as_one.r r one.p VoteCommit as_one.there leads_so one.there (sym as_one.index) (commit_is one.p one.p.ballot refl one.commits),
      )

  voters_to : (to : List ℕ) (r : NamedKey) → referred w to ≡ Some r
      → TakesPart r.name old.name (known told) × Stands (lines.Voted r.name VoteCommit) (known told) → IsTrue (list_any (is_registration_of to) voted_commit)
  voters_to to r leads (part, votes) =
      let at = participant_there w told k key f found r.name (part_among (known told) (lines_of told) r.name old.name (among_turned (known told)) part) in
      let one : at.0.to ≡ to = one_reference w told k at.0.to to at.1 r at.3 leads at.4 in
      let line = subst (λ (y : List ℕ). Stands (lines.Voted y VoteCommit) (lines_of told)) (sym at.4) (among_turned (known told) _ votes) in
      let voted = subst (λ (s : _). IsVoted s at.0.index VoteCommit) going ((old.votes at.0.index VoteCommit at.0 at.1 (registered at.0 at.2) refl at.3).1 line) in
      let as_one = as_registered voted.1 (voted.0, voted.2, voted.3) in
      let same = one_number as_one.r at.0 as_one.there at.2 (as_one.index ∙ voted.4.0) in
      let among = named_to c.parties voted.1 (voted.0, voted.2, voted.3) (ap (λ (b : Option Heard). has_voted_commit (record voted.1 { ballot = b })) voted.4.1) in
      list_any-from_Any (is_registration_of to) voted_commit
      (among.0, recorded voted.1, among.1, among.2, (bytes_eq-Decides voted.1.to to).1 (sym as_one.reference ∙ ap (λ (x : Registration). x.to) same ∙ one))

  named_once : (x y : Named) → Contains voted_commit x → Contains voted_commit y → x.index ≡ y.index → x.reference ≡ y.reference
  named_once x y one other same =
      let first = named_from c.parties x one in
      let second = named_from c.parties y other in
      let as_first = as_registered first.p first.there in
      let as_second = as_registered second.p second.there in
      let equal = one_number as_first.r as_second.r as_first.there as_second.there
      (as_first.index ∙ ap (λ (z : Named). z.index) first.same ∙ same ∙ sym (ap (λ (z : Named). z.index) second.same) ∙ sym as_second.index) in
      sym (ap (λ (z : Named). z.reference) first.same) ∙ sym as_first.reference ∙ ap (λ (z : Registration). z.to) equal ∙ as_second.reference
      ∙ ap (λ (z : Named). z.reference) second.same

  pub decision_rests : RestsOnVotes w told f.key voted_commit
  decision_rests = record {
    name = old.name;
    of_name = old.of_name;
    consented = consented;
    named = named;
    voters = λ to r leads. (voters_from to r leads, voters_to to r leads);
    once = named_once;
  }
