use Rattle.std.proofs.Common.{◌≡◌, ◌∙◌, List, length, Option, is_some, if◌then◌else◌, ap, subst, sym}
use Rattle.std.specs.List.{filter, list_any}
use Rattle.ots_model.specs.declared.completion.Stood.{Stood}
use Rattle.decision_journal.specs.Journal.{is_decision_at}
use Rattle.decision_journal.specs.declared.journal.Standing.{Standing}
use Rattle.recovery_coord.specs.Held.{Recoveries}
use Rattle.recovery_coord.specs.declared.held.Held.{Held}
use Rattle.coordinator.specs.Family.{Family}
use Rattle.coordinator.specs.Step.{family_step, wanted}
use Rattle.coordinator.specs.declared.said.StepAnswer.{StepAnswer}
use Rattle.family_step.specs.Asking.{EntryIsCaused, IsCaused}
use Rattle.service_node.specs.Applying.{IsGoneWhere, is_done, let_go, records_without}
use Rattle.service_node.proofs.Gone.{told_gone}
use Rattle.service_node.proofs.Reserved.{caused_told, kept_where, let_go_told, stood_read}
use Rattle.service_node.proofs.applying.apply_to.Goals as goal

pub returns-clause-stepped : goal.returns-clause-stepped
returns-clause-stepped g c =
    let told = g.D.Disk.told in
    let counts = g.D.Disk.faults in
    let f = c.args.family.now.family in
    let e = c.args.event.now in
    let j = c.args.journal.now in
    let k = c.apply.new.journal in
    let held = c.args.recovered.now in
    let mid = c.let_go_done.new.recovered in
    let st = c.in_ok-answer.ensures.stepped in
    let stood_is : c.stood_at-stood.result ≡ st.stood =
    c.stood_at-stood.ensures
    ∙ stood_read told counts f e j k st.stood c.entries.result.now (length c.entries-count.result.now) (c.entries.ensures.entries ∙ ap (λ (x : Family). x.entries) st.family_is)
    (ap length c.entries-count.ensures.entries) st.asked in
    let mid_is : mid ≡ record held { records = let_go (wanted f e) st.stood held.records } =
    c.let_go_done.ensures
    ∙ ap (λ (a : StepAnswer). record held { records = if list_any is_done a.effects then records_without c.stood_at-stood.result held.records else held.records }) st.answer_is
    ∙ ap (λ (o : Option Stood). record held { records = if list_any is_done (family_step f e st.stood).effects then records_without o held.records else held.records }) stood_is
    ∙ ap (λ (xs : List Held). record held { records = xs }) (let_go_told told counts c.families_close_last.ensures f e j k held.records st.stood st.asked) in
    let kept = λ (ss : List Standing) (o : Option Stood) (b : _) (xs : List Held). if is_some o then (if b then filter (λ (r : Held). list_any (is_decision_at r.place) ss) xs else xs) else xs in
    record {
      stood = st.stood;
      asked = st.asked;
      caused = caused_told told counts f e j k st.stood (IsCaused g.D.Disk.wants_memory (told k.disk) (counts j.disk) (counts k.disk))
          (subst (λ (x : Family). EntryIsCaused g.D.Disk.wants_memory (told k.disk) (counts j.disk) (counts k.disk) f.entries x.entries) st.family_is
          c.in_ok-answer.ensures.cause)
          st.asked;
      family_is = st.family_is;
      answer_is = st.answer_is;
      words_are = st.words_are;
      held_is =
          c.keep_once.ensures
          ∙ ap (λ (ss : List Standing). record mid { records = kept ss c.stood_at-stood.result c.failed-failed.result mid.records }) c.standing-2.ensures.same
          ∙ ap (λ (o : Option Stood). record mid { records = kept k.found.standing o c.failed-failed.result mid.records }) stood_is
          ∙ ap (λ (b : _). record mid { records = kept k.found.standing st.stood b mid.records }) c.failed-failed.ensures
          ∙ ap (λ (x : Recoveries). record x { records = kept k.found.standing st.stood j.failed x.records }) mid_is
          ∙ ap (λ (xs : List Held). record held { records = xs })
          (kept_where told counts (wanted f e) j k st.stood j.failed k.found (let_go (wanted f e) st.stood held.records) st.asked);
    }

pub let_go_done-requires-clause-gone : goal.let_go_done-requires-clause-gone
let_go_done-requires-clause-gone g c =
    let told = g.D.Disk.told in
    let counts = g.D.Disk.faults in
    let f = c.args.family.now.family in
    let e = c.args.event.now in
    let j = c.args.journal.now in
    let k = c.apply.new.journal in
    let st = c.in_ok-answer.ensures.stepped in
    let stood_is : c.stood_at-stood.result ≡ st.stood =
    c.stood_at-stood.ensures
    ∙ stood_read told counts f e j k st.stood c.entries.result.now (length c.entries-count.result.now) (c.entries.ensures.entries ∙ ap (λ (x : Family). x.entries) st.family_is)
    (ap length c.entries-count.ensures.entries) st.asked in
    subst (λ (a : StepAnswer). IsGoneWhere a.effects c.stood_at-stood.result c.standing.result.now) (sym st.answer_is)
    (subst (λ (o : Option Stood). IsGoneWhere (family_step f e st.stood).effects o c.standing.result.now) (sym stood_is)
    (subst (IsGoneWhere (family_step f e st.stood).effects st.stood) (sym c.standing.ensures.same)
    (told_gone told j k counts c.families_close_last.ensures f e st.stood st.asked)))
