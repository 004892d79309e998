use Rattle.std.proofs.Common.{◌-◌, ℕ, List, Some, refl, sym, ap, subst, ◌∙◌}
use Rattle.std.proofs.lemmas.Result.{err_from_is_err_and}
use Rattle.recovery_coord.specs.Outbox.{OutboxParts}
use Rattle.nodes_world.specs.Journals.{Stops}
use Rattle.nodes_parts.specs.declared.disks.Appended.{Appended}
use Rattle.nodes_lives.specs.Calling.{HasCalled, stop_of}
use Rattle.nodes_lives.specs.First.{told_before}
use Rattle.nodes_lives.specs.Shown.{living}
use Rattle.nodes_lives.specs.declared.calling.Called.{Called}
use Rattle.nodes_lives.proofs.Calls.{asked_nearer, asked_same, asked_stops, has_gone, has_heard, image_holds}
use Rattle.nodes_lives.proofs.Coming.{has_answered}
use Rattle.nodes_lives.proofs.calling.call_before.Goals as goal

pub returns-then-end-last-clause-called : goal.returns-then-end-last-clause-called
returns-then-end-last-clause-called c =
    let through = c.in_ok-through.through in
    let later = through.running.node.value.journal.disk.disk in
    let before = living c.args.running in
    subst (λ (x : Called). HasCalled c.args.key.now c.args.event.now before (Some (stop_of c.args.stop)) x c.args.words.now.words c.apply.new.words.words) (sym c.went_on.ensures)
    (has_answered c.args.key.now c.args.event.now c.args.running through (Some (stop_of c.args.stop)) (Some c.args.stop) c.args.words.now.words c.apply.new.words.words c.in_ok-through.ensures.through
    (λ stood writes. asked_same c.args.key.now c.args.event.now c.args.running.loaded.items before later stood c.args.running.end through.running.end writes c.if-end-last.true (Some (stop_of c.args.stop))))

pub returns-then-stop-gt-APPEND_WRITES-clause-called :
    goal.returns-then-stop-gt-APPEND_WRITES-clause-called
returns-then-stop-gt-APPEND_WRITES-clause-called c =
    let through = c.in_ok-through.through in
    let later = through.running.node.value.journal.disk.disk in
    let before = living c.args.running in
    subst (λ (x : Called). HasCalled c.args.key.now c.args.event.now before (Some (stop_of c.args.stop)) x c.args.words.now.words c.apply.new.words.words) (sym c.went_on-then-stop-gt-APPEND_WRITES.ensures)
    (has_answered c.args.key.now c.args.event.now c.args.running through (Some (stop_of c.args.stop))
    (Some (record { write = c.args.stop.write - 2; image = c.args.stop.image })) c.args.words.now.words c.apply.new.words.words c.in_ok-through.ensures.through
    (λ stood writes. asked_nearer c.args.key.now c.args.event.now c.args.running.loaded.items before later stood c.args.running.end through.running.end writes c.if-end-last.false
    (stop_of c.args.stop) c.if-stop-gt-APPEND_WRITES.true))

pub strike-requires : goal.strike-requires
strike-requires c =
    let through = c.in_ok-through.through in
    let later = through.running.node.value.journal.disk.disk in
    let before = living c.args.running in
    let g = c.in_ok-through.ensures.through in
    let a : Appended = record { reads = c.octets.result; loaded = c.as_slice.result; gates = record { last = c.args.running.end; end = through.running.end } } in
    record {
      gone = has_gone c.args.key.now c.args.event.now c.args.running.loaded.items before later g.stood c.args.running.end through.running.end
          a c.octets.ensures (c.as_slice.ensures.value ∙ g.loaded) refl refl g.writes c.if-end-last.false;
    }

pub returns-clause-called : goal.returns-clause-called
returns-clause-called c =
    let through = c.in_ok-through.through in
    let later = through.running.node.value.journal.disk.disk in
    let before = living c.args.running in
    let g = c.in_ok-through.ensures.through in
    let a : Appended = record { reads = c.octets.result; loaded = c.as_slice.result; gates = record { last = c.args.running.end; end = through.running.end } } in
    let stops = asked_stops c.args.key.now c.args.event.now c.args.running.loaded.items before later g.stood c.args.running.end through.running.end
    a c.octets.ensures (c.as_slice.ensures.value ∙ g.loaded) refl refl g.writes c.if-end-last.false
    c.args.stop c.if-stop-gt-APPEND_WRITES.false
    ∙ ap (λ (xs : List ℕ). Stops xs) (sym c.in_ok-image.ensures) in
    record {
      asked = stops;
      holds = image_holds c.args.key.now c.args.event.now c.args.running.loaded.items before later g.stood c.args.running.end through.running.end
          c.stopped_appends_are_safe.ensures.stopped g.writes (stop_of c.args.stop) c.in_ok-image.image.items stops;
      heard = c.in_ok-heard.ensures ∙ ap told_before g.answer
          ∙ has_heard c.args.key.now c.args.event.now c.args.running.loaded.items before later g.stood c.args.running.end through.running.end
          c.families_close_last.ensures c.completes_once.ensures c.requires.given g.writes c.if-end-last.false;
      unsaid = ap (λ (o : OutboxParts). o.words) c.new.ensures;
    }

pub returns-in_err-heard-clause-fault : goal.returns-in_err-heard-clause-fault
returns-in_err-heard-clause-fault c =
    let p = err_from_is_err_and c.from_residual-in_err-heard.result c.from_residual-in_err-heard.ensures.1 in
    rw p.1 p.2

pub returns-in_err-image-clause-fault : goal.returns-in_err-image-clause-fault
returns-in_err-image-clause-fault c =
    let p = err_from_is_err_and c.from_residual-in_err-image.result c.from_residual-in_err-image.ensures.1 in
    rw p.1 p.2
