use Rattle.std.proofs.Common.{subst}
use Rattle.nodes_lives.specs.Calling.{stop_of}
use Rattle.nodes_ready.proofs.Deeds.{on_begin, on_call, on_crash, on_create, on_make_end, on_make_node, on_put, on_refuse, on_restart, on_tick, ready_stop}
use Rattle.nodes_resolve.specs.Named.{IsNamed}
use Rattle.nodes_state.specs.Shown.{shown}
use Rattle.nodes_world.specs.declared.deed.Deed.{Deed}
use Rattle.nodes_replay.proofs.deeds.do_deed.Goals as goal

pub returns-in-MakeNode-clause-ready : goal.returns-in-MakeNode-clause-ready
returns-in-MakeNode-clause-ready c =
    on_make_node c.args.state.now c.make_node.new.state c.args.lines.now.items c.make_node.new.lines.items c.in-MakeNode.name c.make_node.result
    c.requires.ready c.make_node.ensures.whole c.make_node.ensures.carries

pub returns-in-MakeEnd-clause-ready : goal.returns-in-MakeEnd-clause-ready
returns-in-MakeEnd-clause-ready c =
    on_make_end c.args.state.now c.make_end.new.state c.args.lines.now.items c.make_end.new.lines.items c.in-MakeEnd.name c.make_end.result
    c.requires.ready c.make_end.ensures.whole c.make_end.ensures.carries

pub returns-in-Begin-clause-ready : goal.returns-in-Begin-clause-ready
returns-in-Begin-clause-ready c =
    on_begin c.args.state.now c.begin.new.state c.args.lines.now.items c.begin.new.lines.items c.in-Begin.at c.in-Begin.name c.in-Begin.seconds
    c.begin.result c.requires.ready c.begin.ensures.seats c.begin.ensures.resources c.begin.ensures.names c.begin.ensures.does

pub returns-in-Call-clause-ready : goal.returns-in-Call-clause-ready
returns-in-Call-clause-ready c =
    on_call c.args.state.now c.call.new.state c.args.lines.now.items c.call.new.lines.items c.in-Call.to c.in-Call.act c.call.result
    (subst (λ (deed : Deed). IsNamed deed (shown c.args.state.now)) c.in-Call.is c.requires.named)
    c.requires.ready c.call.ensures.seats c.call.ensures.names c.call.ensures.does

pub returns-in-Create-clause-ready : goal.returns-in-Create-clause-ready
returns-in-Create-clause-ready c =
    on_create c.args.state.now c.create_sub.new.state c.args.lines.now.items c.create_sub.new.lines.items c.in-Create.parent c.in-Create.name
    c.create_sub.result c.requires.ready c.create_sub.ensures.seats c.create_sub.ensures.resources c.create_sub.ensures.named
    c.create_sub.ensures.does

pub returns-in-Put-clause-ready : goal.returns-in-Put-clause-ready
returns-in-Put-clause-ready c =
    on_put c.args.state.now c.put.new.state c.args.lines.now.items c.put.new.lines.items c.in-Put.resource c.in-Put.cell c.in-Put.value c.put.result
    c.requires.ready c.put.ensures.nodes c.put.ensures.does

pub returns-in-Refuse-clause-ready : goal.returns-in-Refuse-clause-ready
returns-in-Refuse-clause-ready c =
    on_refuse c.args.state.now c.refuse.new.state c.args.lines.now.items c.refuse.new.lines.items c.in-Refuse.resource c.refuse.result
    c.requires.ready c.refuse.ensures.nodes c.refuse.ensures.does

pub returns-in-Tick-clause-ready : goal.returns-in-Tick-clause-ready
returns-in-Tick-clause-ready c =
    on_tick c.args.state.now c.tick.new.state c.args.lines.now.items c.tick.new.lines.items c.in-Tick.at c.in-Tick.seconds c.tick.result
    c.requires.ready c.tick.ensures.whole c.tick.ensures.does

pub returns-in-Crash-clause-ready : goal.returns-in-Crash-clause-ready
returns-in-Crash-clause-ready c =
    on_crash c.args.state.now c.crash.new.state c.args.lines.now.items c.crash.new.lines.items c.in-Crash.place c.crash.result
    c.requires.ready c.crash.ensures.whole c.crash.ensures.does

pub returns-in-Restart-clause-ready : goal.returns-in-Restart-clause-ready
returns-in-Restart-clause-ready c =
    on_restart c.args.state.now c.restart.new.state c.args.lines.now.items c.restart.new.lines.items c.in-Restart.place c.restart.result
    c.requires.ready c.restart.ensures.whole c.restart.ensures.carries

pub returns-in-Stop-clause-ready : goal.returns-in-Stop-clause-ready
returns-in-Stop-clause-ready c =
    ready_stop c.args.state.now c.set_stop.new.state c.in-Stop.at (stop_of (record { write = c.in-Stop.write; image = c.in-Stop.image }))
    c.requires.ready c.set_stop.ensures.whole c.set_stop.ensures.does
