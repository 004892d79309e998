use Rattle.std.proofs.Common.{Option, None, sym, subst}
use Rattle.std.specs.Option.{option_map}
use Rattle.nodes_parts.specs.declared.disks.Stop.{Stop as KeptStop}
use Rattle.nodes_lives.specs.Calling.{HasCalled, stop_of}
use Rattle.nodes_lives.specs.Living.{Living}
use Rattle.nodes_lives.specs.Shown.{living}
use Rattle.nodes_lives.specs.declared.calling.Called.{Called}
use Rattle.nodes_lives.proofs.Calls.{asked_none}
use Rattle.nodes_lives.proofs.Coming.{has_answered}
use Rattle.nodes_lives.proofs.live.LiveNode.call.Goals as goal

pub returns-in_ok-apply-in-None-clause-called : goal.returns-in_ok-apply-in-None-clause-called
returns-in_ok-apply-in-None-clause-called c =
    let running = c.self.inside.running in
    let through = c.in_ok-apply-in-None.field-0 in
    subst (λ (n : Living). HasCalled c.args.key.now c.args.event.now n (option_map stop_of c.args.stop) c.went_on.result c.args.words.now.words c.apply.new.words.words) c.self.view_is
    (subst (λ (o : Option KeptStop). HasCalled c.args.key.now c.args.event.now (living running) (option_map stop_of o) c.went_on.result c.args.words.now.words c.apply.new.words.words) (sym c.in-None.is)
    (subst (λ (x : Called). HasCalled c.args.key.now c.args.event.now (living running) None x c.args.words.now.words c.apply.new.words.words) (sym c.went_on.ensures)
    (has_answered c.args.key.now c.args.event.now running through None None c.args.words.now.words c.apply.new.words.words c.in_ok-apply-in-None.ensures.through
    (λ stood writes. asked_none c.args.key.now c.args.event.now running.loaded.items (living running) through.running.node.value.journal.disk.disk stood running.end through.running.end writes))))
