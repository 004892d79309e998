use Rattle.std.proofs.Common.{◌∙◌, ap, refl, Ok, Err}
use Rattle.ots_model.specs.declared.tree.Heard.TheVariants.{Enlisted}
use Rattle.end_room.specs.declared.ends.Entered.TheVariants.{New, Registering, Known}
use Rattle.outward_calls.specs.Moment.{LinkMoment, moment}
use Rattle.end_server.specs.Answers.{unregistered}
use Rattle.end_server.specs.Serving.{side}
use Rattle.end_server.proofs.Putting.{is_unregistered, on_other, puts_new, puts_registered, puts_within}
use Rattle.end_server.proofs.cells.put.Goals as goal

pub returns-in-Ok-Known-clause-answer : goal.returns-in-Ok-Known-clause-answer
returns-in-Ok-Known-clause-answer g c =
    let link : LinkMoment = moment (g.L.Link.faults c.args.link.now) (g.L.Link.exchanged c.args.link.now) in
    puts_within g.E.Ends.does (g.E.Ends.place c.args.ends.now) c.args.context.now c.args.cell c.args.value c.tid-tid.result.now c.tid-tid.ensures.tid
    c.args.ends.now c.enter.new.self link c.enter.result (Ok (Known c.in-Ok-Known.key)) (c.in-Ok-Known.is ∙ ap Ok c.in-Ok-Known.field-0-is)
    c.put_into.result (side c.put_into.new.ends link) c.enter.ensures.does (c.put_into.ensures.answer _ _)

pub returns-in-Ok-Registering-clause-answer : goal.returns-in-Ok-Registering-clause-answer
returns-in-Ok-Registering-clause-answer g c =
    let link : LinkMoment = moment (g.L.Link.faults c.args.link.now) (g.L.Link.exchanged c.args.link.now) in
    puts_within g.E.Ends.does (g.E.Ends.place c.args.ends.now) c.args.context.now c.args.cell c.args.value c.tid-tid.result.now c.tid-tid.ensures.tid
    c.args.ends.now c.enter.new.self link c.enter.result (Ok Registering) (c.in-Ok-Registering.is ∙ ap Ok c.in-Ok-Registering.field-0-is)
    c.answer_without_step.result (side c.enter.new.self link) c.enter.ensures.does (c.answer_without_step.ensures, refl)

pub returns-in-Ok-clause-answer : goal.returns-in-Ok-clause-answer
returns-in-Ok-clause-answer g c =
    let link : LinkMoment = moment (g.L.Link.faults c.args.link.now) (g.L.Link.exchanged c.args.link.now) in
    let later : LinkMoment = moment (g.L.Link.faults c.register.new.link) (g.L.Link.exchanged c.register.new.link) in
    puts_within g.E.Ends.does (g.E.Ends.place c.args.ends.now) c.args.context.now c.args.cell c.args.value c.tid-tid.result.now c.tid-tid.ensures.tid
    c.args.ends.now c.enter.new.self link c.enter.result (Ok (New c.in-Ok-New.key)) (c.in-Ok-New.is ∙ ap Ok c.in-Ok-New.field-0-is)
    c.put_into-in-Ok.result (side c.put_into-in-Ok.new.ends later) c.enter.ensures.does
    (puts_new g.E.Ends.does (g.E.Ends.place c.args.ends.now) c.args.context.now c.args.cell c.args.value c.tid-tid.result.now c.tid-tid.ensures.tid
    (g.E.Ends.place c.enter.new.self) c.enter.ensures.stays c.in-Ok-New.key c.enter.new.self link later c.register.result
    (Enlisted c.in-Enlisted.recovery) c.in-Enlisted.is c.put_into-in-Ok.result (side c.put_into-in-Ok.new.ends later) c.register.ensures.sent
    (puts_registered g.E.Ends.does (g.E.Ends.place c.args.ends.now) c.args.context.now c.args.cell c.args.value c.tid-tid.result.now
    c.tid-tid.ensures.tid c.in-Enlisted.recovery c.in-Ok-New.key c.enter.new.self c.bind.new.self later c.bind.result (Ok c.in-Ok.field-0)
    c.in-Ok.is c.put_into-in-Ok.result (side c.put_into-in-Ok.new.ends later) c.bind.ensures.does (c.put_into-in-Ok.ensures.answer _ _)))

pub returns-in-Err-bind-clause-answer : goal.returns-in-Err-bind-clause-answer
returns-in-Err-bind-clause-answer g c =
    let link : LinkMoment = moment (g.L.Link.faults c.args.link.now) (g.L.Link.exchanged c.args.link.now) in
    let later : LinkMoment = moment (g.L.Link.faults c.register.new.link) (g.L.Link.exchanged c.register.new.link) in
    puts_within g.E.Ends.does (g.E.Ends.place c.args.ends.now) c.args.context.now c.args.cell c.args.value c.tid-tid.result.now c.tid-tid.ensures.tid
    c.args.ends.now c.enter.new.self link c.enter.result (Ok (New c.in-Ok-New.key)) (c.in-Ok-New.is ∙ ap Ok c.in-Ok-New.field-0-is)
    c.refused_by.result (side c.bind.new.self later) c.enter.ensures.does
    (puts_new g.E.Ends.does (g.E.Ends.place c.args.ends.now) c.args.context.now c.args.cell c.args.value c.tid-tid.result.now c.tid-tid.ensures.tid
    (g.E.Ends.place c.enter.new.self) c.enter.ensures.stays c.in-Ok-New.key c.enter.new.self link later c.register.result
    (Enlisted c.in-Enlisted.recovery) c.in-Enlisted.is c.refused_by.result (side c.bind.new.self later) c.register.ensures.sent
    (puts_registered g.E.Ends.does (g.E.Ends.place c.args.ends.now) c.args.context.now c.args.cell c.args.value c.tid-tid.result.now
    c.tid-tid.ensures.tid c.in-Enlisted.recovery c.in-Ok-New.key c.enter.new.self c.bind.new.self later c.bind.result (Err c.in-Err-bind.fault)
    c.in-Err-bind.is c.refused_by.result (side c.bind.new.self later) c.bind.ensures.does (c.refused_by.ensures.answer, refl)))

pub returns-in-Err-clause-answer : goal.returns-in-Err-clause-answer
returns-in-Err-clause-answer g c =
    let link : LinkMoment = moment (g.L.Link.faults c.args.link.now) (g.L.Link.exchanged c.args.link.now) in
    puts_within g.E.Ends.does (g.E.Ends.place c.args.ends.now) c.args.context.now c.args.cell c.args.value c.tid-tid.result.now c.tid-tid.ensures.tid
    c.args.ends.now c.enter.new.self link c.enter.result (Err c.in-Err.fault) c.in-Err.is
    c.refused_by-in-Err.result (side c.enter.new.self link) c.enter.ensures.does (c.refused_by-in-Err.ensures.answer, refl)

pub returns-in_default : goal.returns-in_default
returns-in_default g c = record {
  answer =
      let link : LinkMoment = moment (g.L.Link.faults c.args.link.now) (g.L.Link.exchanged c.args.link.now) in
      let later : LinkMoment = moment (g.L.Link.faults c.register.new.link) (g.L.Link.exchanged c.register.new.link) in
      puts_within g.E.Ends.does (g.E.Ends.place c.args.ends.now) c.args.context.now c.args.cell c.args.value c.tid-tid.result.now c.tid-tid.ensures.tid
      c.args.ends.now c.enter.new.self link c.enter.result (Ok (New c.in-Ok-New.key)) (c.in-Ok-New.is ∙ ap Ok c.in-Ok-New.field-0-is)
      c.unregistered.result (side c.unmake.new.self later) c.enter.ensures.does
      (puts_new g.E.Ends.does (g.E.Ends.place c.args.ends.now) c.args.context.now c.args.cell c.args.value c.tid-tid.result.now c.tid-tid.ensures.tid
      (g.E.Ends.place c.enter.new.self) c.enter.ensures.stays c.in-Ok-New.key c.enter.new.self link later c.register.result
      c.in_default.heard c.in_default.heard-is c.unregistered.result (side c.unmake.new.self later) c.register.ensures.sent
      (on_other g.E.Ends.does (g.E.Ends.place c.args.ends.now) c.args.context.now c.args.cell c.args.value c.tid-tid.result.now c.tid-tid.ensures.tid
      c.in_default.heard c.in-Ok-New.key (side c.enter.new.self later) c.unregistered.result (side c.unmake.new.self later)
      (λ recovery e. c.in_default.not-Enlisted recovery (c.in_default.heard-is ∙ e))
      (is_unregistered g.E.Ends.does (g.E.Ends.place c.args.ends.now) c.args.context.now c.args.cell c.args.value c.tid-tid.result.now
      c.tid-tid.ensures.tid c.in-Ok-New.key c.in_default.heard c.enter.new.self c.unmake.new.self later c.unregistered.result
      c.unmake.ensures.does (c.unregistered.ensures.answer ∙ ap unregistered c.in_default.heard-is))));
  stays = c.unmake.ensures.stays ∙ c.enter.ensures.stays;
  later = c.register.ensures.sent.later;
  short = c.unregistered.ensures.short;
}
