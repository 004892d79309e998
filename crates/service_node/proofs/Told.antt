-- What an answer to a word that was told again makes of a node is what the definition says.
use Rattle.std.proofs.Common.{◌≡◌, ◌∙◌, ℕ, Bool, true, false, cond, List, Option, Some, None, IsSome, Ok, Err, refl, sym, ap, subst}
use Rattle.ots_model.specs.declared.completion.CallNumber.{CallNumber}
use Rattle.ots_model.specs.declared.tree.Heard.{Heard}
use Rattle.ots_outside.specs.Disk.{DiskState}
use Rattle.decision_journal.specs.State.{JournalState}
use Rattle.recovery_coord.specs.Held.{Recoveries, is_held}
use Rattle.recovery_coord.specs.Hearing.{completed, records_after}
use Rattle.recovery_coord.specs.declared.held.Held.{Held}
use Rattle.coordinator.specs.declared.effect.Effect.{Effect}
use Rattle.coordinator.specs.declared.node.NodeFault.TheVariants as faults
use Rattle.coordinator.specs.declared.said.Said.{Said}
use Rattle.coordinator.specs.declared.said.Said.TheVariants as said
use Rattle.coordinator.specs.Family.{Family}
use Rattle.coordinator.specs.Node.{Node, life}
use Rattle.coordinator.specs.NodeCalls.{Applied, alone, done_told, hears_record, journaled, records_hear, records_with, refuses, replies}
use Rattle.service_node.specs.Journaling.{HasConcluded, IsAnswered, done_of, kept_once, once_asked}
use Rattle.family_step.specs.Asking.{IsAsked}
use Rattle.service_node.specs.NodeState.{BelongTogether, NodeState, node_of}
use Rattle.service_node.proofs.Answered.{heard_stand, none_completed}
use Rattle.service_node.proofs.Applied.{done_kind, found_once, held_stand, leaves_asked, let_go_is}
use Rattle.service_node.proofs.Asked.{Leaves}
use Rattle.service_node.proofs.Stands.{AllStand}

module _ {D : Type 0} (wants : Bool) (told : D → Option DiskState) (counts : D → ℕ) (before after : JournalState D) (held heard later : Recoveries) (families : List (Option Family)) (last generation : ℕ)
    (n : CallNumber) (h : Heard) (complete : Option ℕ) (happened : List Effect)
    (together : BelongTogether before held families last generation)
    (heard_is : heard ≡ record held { records = records_after held.life n h held.records })
    (done : HasConcluded wants told counts complete before after heard later happened)
    (sure : before.failed ≡ false → IsSome complete → before.doubted ≡ None) where
  abbrev rs : List Held
  rs = records_after held.life n h held.records

  left : Leaves before after
  left = leaves_asked told counts before after together.own.life_stays (done_of complete) done.stood (done_kind complete) done.asked

  others : later ≡ record held { records = later.records }
  others =
      done.later_is
      ∙ ap (λ (x : Recoveries). record x { records = kept_once (done_of complete) before.failed after.found (records_with complete done.stood x.records) }) heard_is
      ∙ ap (λ (xs : List Held). record held { records = xs }) (sym records_are)
    where
      records_are : later.records ≡ kept_once (done_of complete) before.failed after.found (records_with complete done.stood rs)
      records_are =
          ap (λ (x : Recoveries). x.records) done.later_is
          ∙ ap (λ (x : Recoveries). kept_once (done_of complete) before.failed after.found (records_with complete done.stood x.records)) heard_is

  records_are : later.records ≡ kept_once (done_of complete) before.failed after.found (records_with complete done.stood rs)
  records_are =
      ap (λ (x : Recoveries). x.records) done.later_is
      ∙ ap (λ (x : Recoveries). kept_once (done_of complete) before.failed after.found (records_with complete done.stood x.records)) heard_is

  stand : AllStand after.found.standing later.records
  stand = subst (AllStand after.found.standing) (sym records_are) (by_complete complete done.asked sure)
    where
      heard_all : AllStand before.found.standing rs
      heard_all = heard_stand before.found.standing held.life n h held.records together.whole.held

      by_complete : (o : Option ℕ) → IsAsked told counts (done_of o) before after done.stood → (before.failed ≡ false → IsSome o → before.doubted ≡ None)
          → AllStand after.found.standing (kept_once (done_of o) before.failed after.found (records_with o done.stood rs))
      by_complete None a known = subst (λ (j : JournalState D). AllStand j.found.standing rs) (sym a.0) heard_all
      by_complete (Some place) a known =
          subst (λ (xs : List Held). AllStand after.found.standing (kept_once (done_of (Some place)) before.failed after.found xs)) (let_go_is (Some place) done.stood rs)
          (held_stand told counts before after before.failed (λ e. known e refl) (done_of (Some place)) done.stood rs tt a heard_all)

  pub still_together : BelongTogether after later families last generation
  still_together = record {
    whole = record {
      slots = together.whole.slots;
      families = λ slot f e. let old = together.whole.families slot f e in
          record { of_service = old.of_service ∙ sym left.service; of_life = old.of_life ∙ sym left.life; own_slot = old.own_slot; given = old.given };
      last = together.whole.last;
      numbers = together.whole.numbers;
      held = stand;
    };
    own = record {
      service_is = ap (λ (x : Recoveries). x.service) others ∙ together.own.service_is ∙ sym left.service;
      life_is = ap (λ (x : Recoveries). x.life) others ∙ together.own.life_is ∙ sym left.life;
      life_stays = left.stays;
    };
  }

  abbrev node0 : Node
  node0 = node_of before.service before.found held.records families last generation

  abbrev node1 : Node
  node1 = node_of after.service after.found later.records families last generation

  -- the definition's node, where this record is complete
  abbrev heard_node : Option ℕ → List Held → Node
  heard_node o records = record node0 { found = journaled (done_of o) done.stood before.found; recovered = records_with o done.stood records }

  by_node : (o : Option ℕ) → IsAsked told counts (done_of o) before after done.stood → (before.failed ≡ false → IsSome o → before.doubted ≡ None)
      → (failed : Bool) → before.failed ≡ failed → later.records ≡ kept_once (done_of o) failed after.found (records_with o done.stood rs) → node1 ≡ once_asked (done_of o) failed after.found (heard_node o rs)
  by_node None a known failed e is = λ i. record {
    service = (ap (λ (j : JournalState D). j.service) a.0) i;
    found = (ap (λ (j : JournalState D). j.found) a.0) i;
    recovered = is i;
    families = families;
    last = last;
    generation = generation;
  }
  by_node (Some place) a known true e is = λ i. record {
    service = left.service i;
    found = after.found;
    recovered = is i;
    families = families;
    last = last;
    generation = generation;
  }
  by_node (Some place) a known false e is = λ i. record {
    service = left.service i;
    found = (found_once told counts before after (known e refl) (done_of (Some place)) done.stood a) i;
    recovered = is i;
    families = families;
    last = last;
    generation = generation;
  }

  -- the definition hears it
  opened : is_held n.generation held.records ≡ true → hears_record n h done.stood node0 ≡ records_hear n h done.stood node0
  unfolding hears_record
  opened is = ap (λ (b : Bool). cond b (records_hear n h done.stood node0) (refuses faults.ObjectNotExist node0)) is

  pub answered : is_held n.generation held.records ≡ true → complete ≡ completed held.life n h held.records
      → IsAnswered wants told counts (record { node = node0; journal = before }) (record { node = node1; journal = after }) (Ok (alone said.Plain happened)) (completed before.found.life n h held.records) (hears_record n h)
  answered is complete_is = record {
    stood = done.stood;
    caused = done.caused;
    asked = subst (λ (o : Option ℕ). IsAsked told counts (done_of o) before after done.stood) same done.asked;
    node =
        by_node complete done.asked sure before.failed refl records_are
        ∙ ap (λ (o : Option ℕ). once_asked (done_of o) before.failed after.found (heard_node o rs)) complete_is
        ∙ ap (λ (l : ℕ). once_asked (done_of (completed l n h held.records)) before.failed after.found (heard_node (completed l n h held.records) (records_after l n h held.records))) together.own.life_is
        ∙ sym (ap (λ (x : Applied). once_asked (done_of (completed before.found.life n h held.records)) before.failed after.found x.node) (opened is));
    answer =
        ap (λ (xs : List Effect). Ok (alone said.Plain xs)) done.happened_is
        ∙ ap (λ (o : Option ℕ). Ok (alone said.Plain (done_told o done.stood))) same
        ∙ sym (ap (λ (x : Applied). x.answer) (opened is));
  }
    where
      same : complete ≡ completed before.found.life n h held.records
      same = complete_is ∙ ap (λ (l : ℕ). completed l n h held.records) together.own.life_is

-- ---- a call that no record knows, and one that a record answers

pub unheld : {D : Type 0} (wants : Bool) (told : D → Option DiskState) (counts : D → ℕ) (s : NodeState D) (n : CallNumber) (h : Heard) → is_held n.generation s.node.recovered ≡ false
    → IsAnswered wants told counts s s (Err faults.ObjectNotExist) (completed (life s.node) n h s.node.recovered) (hears_record n h)
unfolding hears_record
unheld wants told counts s n h none =
    let gone = none_completed (life s.node) n h s.node.recovered none in
    let opened : hears_record n h None s.node ≡ refuses faults.ObjectNotExist s.node = ap (λ (b : Bool). cond b (records_hear n h None s.node) (refuses faults.ObjectNotExist s.node)) none in
    record {
      stood = None;
      caused = tt;
      asked = subst (λ (o : Option ℕ). IsAsked told counts (done_of o) s.journal s.journal None) (sym gone) (refl, refl);
      node =
          ap (λ (o : Option ℕ). once_asked (done_of o) s.journal.failed s.journal.found s.node) (sym gone)
          ∙ sym (ap (λ (x : Applied). once_asked (done_of (completed (life s.node) n h s.node.recovered)) s.journal.failed s.journal.found x.node) opened);
      answer = sym (ap (λ (x : Applied). x.answer) opened);
    }

pub replies_stay : (o : Option Said) (n : Node) → n ≡ (replies o n).node
replies_stay None n = refl
replies_stay (Some answer) n = refl
