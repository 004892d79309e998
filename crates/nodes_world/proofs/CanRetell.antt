-- A word of a record may be told again, once a line tells its decision.
use Rattle.std.proofs.Common.{◌≡◌, ◌⊎◌, inl, inr, ℕ, ◌+◌, ◌-◌, ◌==◌, ◌&&◌, Bool, false, is_some, IsTrue, List, slice_get, Any, Contains, Option, Some, None, refl, sym, ap, subst, ◌∙◌, arith}
use Rattle.std.specs.List.{list_any}
use Rattle.std.specs.Option.{option_and_then, option_map_or}
use Rattle.std.proofs.lemmas.Bool.Decides.{nat_tests}
use Rattle.ior_refs.specs.declared.key.ObjectKey.{ObjectKey}
use Rattle.ots_model.specs.Safe.{Stands, IsRegistered}
use Rattle.ots_model.specs.SafeByLine.{CanTell}
use Rattle.ots_model.specs.declared.completion.Ground.TheVariants.{Record}
use Rattle.ots_model.specs.declared.completion.Word.{Word as Phase}
use Rattle.ots_model.specs.declared.completion.Word.TheVariants as phase_words
use Rattle.ots_model.specs.declared.line.Line.TheVariants as lines
use Rattle.ots_model.specs.declared.service.RetryKey.{RetryKey}
use Rattle.ots_model.specs.declared.completion.Outcome.TheVariants as outcomes
use Rattle.ots_model.specs.declared.tree.Outward.{Outward}
use Rattle.ots_model.specs.declared.tree.Word.{Word}
use Rattle.ots_model.specs.declared.tree.Word.TheVariants as words
use Rattle.two_phase.specs.Stages as stages
use Rattle.decision_journal.specs.Journal.{first_gate, found_in}
use Rattle.decision_journal.specs.declared.record.JournalRecord.{JournalRecord}
use Rattle.decision_journal.specs.declared.record.JournalRecord.TheVariants.{Decision}
use Rattle.decision_journal.specs.declared.record.Registration.{Registration as Named}
use Rattle.recovery_coord.specs.Limits.{retold_slot}
use Rattle.coordinator.specs.Family.{Family}
use Rattle.coordinator.specs.Node.{Node}
use Rattle.nodes_world.specs.Agreement.{HasSent, IsTransaction, RestsOnVotes, has_record, is_decision_of, is_registration_of, names_object, recorded_key, records_at}
use Rattle.nodes_world.specs.AgreementInside.{Known, IsBranch, IsNamedBy, phase_of, placed}
use Rattle.nodes_world.specs.Journals.{records_on}
use Rattle.nodes_world.specs.Objects.{place_of, service_at}
use Rattle.nodes_world.specs.Told.{Told, known}
use Rattle.nodes_world.specs.World.{World, Seat, OfNode, NamedKey, family_at, referred, thing}
use Rattle.nodes_world.proofs.KnownLines.{among_turned, joined_of, lines_of, of_key, part_among, same_key}
use Rattle.nodes_world.proofs.KnownWords.{IsDecisionAt, word_of}
use Rattle.nodes_world.proofs.KnownRequests.{MayGo}
use Rattle.nodes_world.proofs.CanGo.{any_of, first_key, in_slot}
use Rattle.nodes_world.proofs.CanTell.{can_commit}

named_one : (o : Option NamedKey) → IsTrue (is_some o) → (x : NamedKey) × (o ≡ Some x)
named_one (Some x) is = (x, refl)
named_one None is = absurd cc

same_records : {a b : List JournalRecord} → Some a ≡ Some b → a ≡ b
same_records e = cc

-- it is commit, or none of the two phases
abbrev pub IsRetold : Word → Type 0
IsRetold word = (word ≡ words.Phase phase_words.Commit) ⊎ (phase_of word ≡ None)

only_commit : (word : Word) (phase : Phase) → IsRetold word → phase_of word ≡ Some phase → phase ≡ phase_words.Commit
only_commit word phase (inl is) some = inner (sym some ∙ ap phase_of is)
  where
    inner : Some phase ≡ Some phase_words.Commit → phase ≡ phase_words.Commit
    inner e = cc
only_commit word phase (inr none) some = absurd (no (sym none ∙ some))
  where
    no : None ≡ Some phase → ⊥
    no e = absurd cc

no_other : (word : Word) (phase : Phase) → IsRetold word → (phase ≡ phase_words.Commit → ⊥) → word ≡ word_of phase → phase_of (word_of phase) ≡ Some phase → ⊥
no_other word phase again other is has = other (only_commit word phase again (ap phase_of is ∙ has))

own_three : (a b c : ℕ) → IsTrue (a == a && b == b && c == c)
own_three a b c = grind (arith, nat_tests)

back_one : (n : ℕ) → n + 1 - 1 ≡ n
back_one n = omega arith

module _ (w : World) (told : List Told) (k : Known w told) (place : ℕ) (rs : List JournalRecord) (held : records_at w place ≡ Some rs) (life slot generation : ℕ)
    (retry : Option RetryKey) (asked : Bool) (regs : List Named) (among : Contains rs (Decision life slot generation retry asked regs)) (o : Outward)
    (named : IsTrue (list_any (is_registration_of o.to) regs)) (again : IsRetold o.word) (family : List ℕ)
    (of_name : IsTransaction w family (recorded_key place life slot generation))
    (line : Stands (lines.Decide family (outcomes.Commit Record)) (lines_of told)) where
  rests : RestsOnVotes w told (recorded_key place life slot generation) regs
  rests = k.records place life slot generation retry asked regs rs held among

  object_of : (x : NamedKey) × (referred w o.to ≡ Some x)
  object_of = named_one (referred w o.to) (rests.named o.to named)

  at_record : IsDecisionAt w place o.to
  at_record = record {
    records = rs;
    held = held;
    decision = record {
      life = life;
      slot = slot;
      generation = generation;
      retry = retry;
      asked = asked;
      registrations = regs;
      contains = among;
      named = named;
    };
  }

  -- a family that is there, and in which it is registered, is that of the record
  key_of_family : (t : List ℕ) (b : ℕ) (key : ObjectKey) (f : Family) → IsRegistered object_of.0.name t (lines_of told) → family_at w key ≡ Some f → IsBranch w f t b
      → f.key ≡ recorded_key place life slot generation
  key_of_family t b key f registered there branch =
      let part = part_among (known told) (lines_of told) object_of.0.name rests.name (among_turned (known told)) ((rests.voters o.to object_of.0 object_of.1).0 named).0 in
      let same_t = k.names.one_transaction object_of.0.name t part.0 registered part.1 in
      let named_t : IsTransaction w part.0 branch.0 = subst (λ (u : List ℕ). IsTransaction w u branch.0) same_t branch.1 in
      let top = of_key w told k rests.name part.0 branch.0 (joined_of (lines_of told) rests.name part.0 part.2) named_t in
      sym (first_key w told k key f there t b branch) ∙ same_key (thing w rests.name) _ _ top rests.of_name

  commits_there : (t : List ℕ) (b : ℕ) (key : ObjectKey) (f : Family) → IsRegistered object_of.0.name t (lines_of told) → family_at w key ≡ Some f → IsBranch w f t b
      → stages.outcome f.completion ≡ Some (outcomes.Commit Record)
  commits_there t b key f registered there branch =
      let is = key_of_family t b key f registered there branch in
      let has : IsTrue (has_record w place (is_decision_of (recorded_key place life slot generation))) =
      subst (λ (p : Option (List JournalRecord)).
      IsTrue (option_map_or (λ (some : List JournalRecord). list_any (is_decision_of (recorded_key place life slot generation)) some) p false)) (sym held)
      (any_of (is_decision_of (recorded_key place life slot generation)) rs _ among (own_three life slot generation)) in
      (k.families key f there).recorded.0
      (subst (λ (y : ObjectKey). IsTrue (has_record w (place_of y) (is_decision_of y))) (sym is)
      (subst (λ (p : ℕ). IsTrue (has_record w p (is_decision_of (recorded_key place life slot generation)))) (sym (back_one place)) has))

  pub retold_may_go : (s : Seat) (n : Node) → slice_get w.seats place ≡ Some s → s.server ≡ OfNode (Some n) → o.number.life ≡ n.found.life → o.number.slot ≡ retold_slot
      → Any (IsNamedBy o) (placed first_gate rs) → ((other : Outward) → HasSent w place other → other.number ≡ o.number → other.to ≡ o.to) → MayGo w told place o
  unfolding at_record
  retold_may_go s n there up number_life number_slot by_record object = record {
    resource = object_of.0;
    refers = object_of.1;
    allowed = λ phase is. subst (λ (p : Phase). CanTell p object_of.0.name (lines_of told)) (sym (only_commit o.word phase again is))
        (can_commit w told k place o.to object_of.0 at_record family object_of.1 of_name line);
    seat = ap is_some there;
    object = object;
    fresh = λ other sent same. number_slot;
    life = λ found held_there.
        let follows = k.disks.follows place s n there up in
        let own : records_at w place ≡ Some follows.records =
        ap (λ (p : Option Seat). option_and_then (λ (y : Seat). records_on (service_at place) y.disk) p) there ∙ follows.held in
        let in_life = ap (λ y. y.life) follows.found in
        let same = ap (λ (y : List JournalRecord). (found_in y).life) (same_records (sym own ∙ held_there)) in
        omega (arith, number_life, in_life, same);
    given = λ z m at runs alike. inl number_slot;
    told_again = λ found slots held_there. subst (λ (y : List JournalRecord). Any (IsNamedBy o) (placed first_gate y)) (same_records (sym held ∙ held_there)) by_record;
    serial = λ f key at a b c d. absurd (in_slot w told k key f at (sym b ∙ number_slot));
    recorded = λ is. subst (λ (p : Option (List JournalRecord)). IsTrue (option_map_or (λ (some : List JournalRecord). list_any (names_object o.to) some) p false)) (sym held)
        (any_of (names_object o.to) rs _ among named);
    commits = λ is t b key f registered at branch. commits_there t b key f registered at branch;
    asks = λ is. absurd (no_other o.word phase_words.CommitOnePhase again (λ e. absurd cc) is refl);
    alone = λ is. absurd (no_other o.word phase_words.CommitOnePhase again (λ e. absurd cc) is refl);
    back = λ is. absurd (no_other o.word phase_words.Rollback again (λ e. absurd cc) is refl);
  }
