-- What rests on a word that a line tells: the record that names whom commit was told, and why rollback was.
use Rattle.std.proofs.Common.{◌≡◌, ◌⊎◌, inl, inr, ℕ, ◌+◌, ◌||◌, Bool, true, false, IsTrue, List, [], ◌∷◌, Contains, Option, Some, None, refl, ap, subst, arith}
use Rattle.std.specs.List.{list_any}
use Rattle.std.specs.Option.{option_map_or}
use Rattle.std.proofs.lemmas.List.Elements.{Contains-append_right}
use Rattle.ior_refs.specs.declared.key.ObjectKey.{ObjectKey}
use Rattle.ots_model.specs.Safe.{Stands, IsSent, IsToldRollback, TakesPart, IsJoined}
use Rattle.ots_model.specs.declared.completion.Ground.TheVariants.{Record}
use Rattle.ots_model.specs.declared.completion.Outcome.TheVariants as outcomes
use Rattle.ots_model.specs.declared.completion.Vote.TheVariants.{VoteCommit}
use Rattle.ots_model.specs.declared.completion.Word.{Word as Phase}
use Rattle.ots_model.specs.declared.completion.Word.TheVariants as phase_words
use Rattle.ots_model.specs.declared.line.Line.TheVariants as lines
use Rattle.ots_model.specs.declared.service.RetryKey.{RetryKey}
use Rattle.ots_model.specs.declared.tree.Outward.{Outward}
use Rattle.ots_model.specs.declared.tree.Word.{Word}
use Rattle.ots_model.specs.declared.tree.Word.TheVariants as words
use Rattle.decision_journal.specs.declared.record.JournalRecord.{JournalRecord}
use Rattle.decision_journal.specs.declared.record.JournalRecord.TheVariants.{Decision}
use Rattle.decision_journal.specs.declared.record.Registration.{Registration}
use Rattle.nodes_world.specs.Agreement.{IsTransaction, IsClosed, IsCutOff, HasSent, MayBeRolledBack, RestsOnVotes, has_record, is_registration_of, names_object, recorded_key, records_at}
use Rattle.nodes_world.specs.AgreementInside.{Known, ResourceIsKnown, HasVotedCommit, phase_of}
use Rattle.nodes_world.specs.Told.{Told, known}
use Rattle.nodes_world.specs.World.{World, FlatResource, NamedKey, referred, resource_at}
use Rattle.nodes_world.proofs.KnownLines.{among_back, among_turned, closed_cut_off, cut_among, joined_of, joined_up, lines_of, of_key, referred_named, registered_among}

-- ---- words and their phases

abbrev pub word_of : Phase → Word
word_of phase_words.Prepare = words.Phase phase_words.Prepare
word_of phase_words.Commit = words.Phase phase_words.Commit
word_of phase_words.CommitOnePhase = words.Phase phase_words.CommitOnePhase
word_of phase_words.Rollback = words.Phase phase_words.Rollback

some_phase : {a b : Phase} → Some a ≡ Some b → a ≡ b
some_phase is = cc

pub phase_only : (word : Word) (phase : Phase) → phase_of word ≡ Some phase → word ≡ word_of phase
phase_only (words.Phase phase_words.Prepare) phase is = ap word_of (some_phase is)
phase_only (words.Phase phase_words.Commit) phase is = ap word_of (some_phase is)
phase_only (words.Phase phase_words.CommitOnePhase) phase is = ap word_of (some_phase is)
phase_only (words.Phase phase_words.Rollback) phase is = ap word_of (some_phase is)
phase_only _ phase is = absurd cc

-- ---- decisions on a disk

-- a decision among these records names this object
pub record IsDecisionFor (rs : List JournalRecord) (to : List ℕ) : Type 0 where
  pub life : ℕ
  pub slot : ℕ
  pub generation : ℕ
  pub retry : Option RetryKey
  pub asked : Bool
  pub registrations : List Registration
  pub contains : Contains rs (Decision life slot generation retry asked registrations)
  pub named : IsTrue (list_any (is_registration_of to) registrations)

later : (r : JournalRecord) (rs : List JournalRecord) (to : List ℕ) → IsDecisionFor rs to → IsDecisionFor (r ∷ rs) to
later r rs to d = record {
  life = d.life;
  slot = d.slot;
  generation = d.generation;
  retry = d.retry;
  asked = d.asked;
  registrations = d.registrations;
  contains = Contains-append_right (r ∷ []) rs _ d.contains;
  named = d.named;
}

either : (a b : Bool) → IsTrue (a || b) → IsTrue a ⊎ IsTrue b
either true b is = inl refl
either false b is = inr is

pub decision_for : (rs : List JournalRecord) (to : List ℕ) → IsTrue (list_any (names_object to) rs) → IsDecisionFor rs to
decision_for [] to is = absurd cc
decision_for (Decision life slot generation retry asked registrations ∷ rs) to is =
    elim (either (list_any (is_registration_of to) registrations) (list_any (names_object to) rs) is) [
      | inl here ↦ record {
        life = life;
        slot = slot;
        generation = generation;
        retry = retry;
        asked = asked;
        registrations = registrations;
        contains = (0, omega arith, refl);
        named = here;
      }
      | inr there ↦ later (Decision life slot generation retry asked registrations) rs to (decision_for rs to there)
    ]
decision_for (r ∷ rs) to is = later r rs to (decision_for rs to is)

pub record IsDecisionAt (w : World) (place : ℕ) (to : List ℕ) : Type 0 where
  pub records : List JournalRecord
  pub held : records_at w place ≡ Some records
  pub decision : IsDecisionFor records to

pub decision_at : (w : World) (place : ℕ) (to : List ℕ) → IsTrue (has_record w place (names_object to)) → IsDecisionAt w place to
decision_at w place to is = by (records_at w place) refl is
  where
    by : (o : Option (List JournalRecord)) → records_at w place ≡ o
        → IsTrue (option_map_or (λ (rs : List JournalRecord). list_any (names_object to) rs) o false) → IsDecisionAt w place to
    by None held is = absurd cc
    by (Some rs) held is = record { records = rs; held = held; decision = decision_for rs to is }

module _ (w : World) (told : List Told) (k : Known w told) where
  -- the family of a decision, and whose votes it rests on
  pub rests_of : (place : ℕ) (to : List ℕ) (d : IsDecisionAt w place to)
      → RestsOnVotes w told (recorded_key place d.decision.life d.decision.slot d.decision.generation) d.decision.registrations
  rests_of place to d =
      k.records place d.decision.life d.decision.slot d.decision.generation d.decision.retry d.decision.asked d.decision.registrations d.records d.held
      d.decision.contains

  -- ---- a word that was told

  pub sent_of : (place : ℕ) (o : Outward) (phase : Phase) (x : NamedKey) → HasSent w place o → phase_of o.word ≡ Some phase → referred w o.to ≡ Some x
      → IsSent phase x.name (lines_of told)
  sent_of place o phase x sent is refers = (sent.0 + 1, k.words.told sent.0 place o phase x sent.1 is refers)

  pub told_back : (g : List ℕ) → IsToldRollback g (lines_of told) → MayBeRolledBack w told g
  told_back g (number, s) =
      let at = k.words.sent number phase_words.Rollback g s in
      subst (MayBeRolledBack w told) at.8 (k.rollbacks at.1 at.2 at.3 (at.0, at.4) (phase_only at.2.word phase_words.Rollback at.6) at.7)

  -- commit was told to one that takes part in the family of a decision, and has voted commit
  pub told_commit : (g : List ℕ) → IsSent phase_words.Commit g (lines_of told)
      → (family : List ℕ) × TakesPart g family (known told) × Stands (lines.Voted g VoteCommit) (known told)
  told_commit g (number, s) =
      let at = k.words.sent number phase_words.Commit g s in
      let d = decision_at w at.1 at.2.to (k.commits at.1 at.2 (at.0, at.4) (phase_only at.2.word phase_words.Commit at.6)) in
      let rests = rests_of at.1 at.2.to d in
      let voter = (rests.voters at.2.to at.3 at.7).0 d.decision.named in
      subst (λ (name : List ℕ). (family : List ℕ) × TakesPart name family (known told) × Stands (lines.Voted name VoteCommit) (known told)) at.8
      (rests.name, voter.0, voter.1)

  -- the family of one that was told rollback is closed
  pub back_is_closed : (g family : List ℕ) → TakesPart g family (lines_of told) → IsToldRollback g (lines_of told)
      → (key : ObjectKey) × IsTransaction w family key × (key.index ≡ 0) × IsClosed w told key family
  back_is_closed g family (t, registered, joined) back =
      let m = told_back g back in
      let same : m.transaction ≡ t = k.names.one_transaction g m.transaction t
      (registered_among (known told) (lines_of told) g m.transaction (among_turned (known told)) m.registered) registered in
      let named : IsTransaction w t m.key = subst (λ (x : List ℕ). IsTransaction w x m.key) same m.named in
      let of = of_key w told k family t m.key (joined_of (lines_of told) family t joined) named in
      let top : m.top ≡ family = k.names.keys m.top family _ m.family of in
      (record m.key { index = 0 }, of, refl, closed_by family t m.transaction m.top (record m.key { index = 0 }) same top joined m.over)
    where
      closed_by : (family t transaction top : List ℕ) (key : ObjectKey) → transaction ≡ t → top ≡ family → IsJoined (lines_of told) family t
          → (IsClosed w told key top ⊎ IsCutOff (known told) transaction) → IsClosed w told key family
      closed_by family t transaction top key same is joined (inl closed) = subst (IsClosed w told key) is closed
      closed_by family t transaction top key same is joined (inr off) =
          absurd (closed_cut_off w told k t (subst (IsCutOff (lines_of told)) same (cut_among (known told) (lines_of told) transaction (among_turned (known told)) off))
          (joined_up (lines_of told) family t joined))

  -- so it isn't decided, by any line
  pub decided_not_back : (g family : List ℕ) → TakesPart g family (lines_of told)
      → Stands (lines.Decide family (outcomes.Commit Record)) (lines_of told) → IsToldRollback g (lines_of told) → ⊥
  decided_not_back g family part line back =
      let at = back_is_closed g family part back in
      k.one_outcome family at.0 at.1 at.2 (inl (among_back (known told) _ line)) at.3

  -- ---- a resource

  pub resource_of : (to : List ℕ) (x : NamedKey) → referred w to ≡ Some x
      → (r : FlatResource) × (resource_at w x.key ≡ Some r) × ResourceIsKnown w (lines_of told) x.name r
  resource_of to x refers =
      let named = referred_named w told k to x refers in
      let at = k.names.resources x.name x.key named in
      (at.0, at.1, k.resources x.name x.key at.0 named at.1)

  -- one that has voted commit is as its vote and its words leave it
  pub voter_stands : (name : List ℕ) (r : FlatResource) → ResourceIsKnown w (lines_of told) name r → Stands (lines.Voted name VoteCommit) (known told)
      → HasVotedCommit r.state name (lines_of told)
  voter_stands name r at voted =
      let g = k.votes name VoteCommit voted in
      at.commit (g.request, g.from, g.reply, g.asked, g.resource, g.answer, g.sent, g.prepare, g.object, g.same_name, g.answered, g.says)
