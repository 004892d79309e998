use Rattle.std.proofs.Common.{◌∙◌, ap}
use Rattle.end_room.proofs.Doing.{is_unkept}
use Rattle.end_room.proofs.own_end.OwnEnd.enlist.Goals as goal

pub returns-in-Err-clause-made : goal.returns-in-Err-clause-made
returns-in-Err-clause-made g c =
    is_unkept c.self.inside.end c.self.inside.given (record { at = c.self.inside.at; service = c.self.inside.service })
    c.args.self.now c.self.view_is c.args.tid.now c.in_ok-key.key c.fresh.new.self c.self-2.inside.end c.unmake.new.self
    c.self-2.inside.given (record { at = c.self-2.inside.at; service = c.self-2.inside.service })
    c.in_ok-key.ensures.called (ap (λ o. o.end) c.self-2.view_is ∙ c.note.ensures.end)
    (ap (λ o. o.names) c.self-2.view_is ∙ c.in-Err.ensures.unnamed) c.unmake.ensures.called c.in_ok-key.ensures.stays c.unmake.ensures.stays
