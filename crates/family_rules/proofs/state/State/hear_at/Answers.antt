use Rattle.std.proofs.Common.{◌≡◌, ◌∙◌, refl, sym, ap, ◌+◌, Option, Some, None, arith}
use Rattle.family_rules.specs.Calls.{aim_of, changed_in, plain_call}
use Rattle.coordinator.specs.Family.{Family, Call, call_at, with_call}
use Rattle.coordinator.specs.declared.call.Leg.{Leg}
use Rattle.coordinator.specs.Hearing.{told, told_before, told_end, told_participant}
use Rattle.coordinator.specs.Moves.{only}
use Rattle.family_rules.proofs.Going.{can_hear, can_less}
use Rattle.family_rules.proofs.Heard.{heard_by}
use Rattle.family_rules.proofs.Moving.{brings_nothing}
use Rattle.family_rules.proofs.RunsOn.{call_put}
use Rattle.family_rules.proofs.state.State.hear_at.Goals as goal

pub returns-in-Below-clause-moved : goal.returns-in-Below-clause-moved
returns-in-Below-clause-moved c =
    let f = c.args.self.now.family in
    let g = c.change_call.new.self.family in
    let d = c.args.out.now in
    let b = c.args.branch in
    let k : Call = record (plain_call c.args.call) { left = c.requires.call.0 } in
    let at : call_at f b ≡ Some k = c.requires.call.1 in
    let put : g ≡ with_call b (record k { out = None }) f = c.change_call.ensures.does ∙ ap (λ (o : Option Call). changed_in o b k.caller None f) at in
    let now : Call = record k { out = None } in
    let n = c.args.number.now in
    let heard = c.args.heard.now in
    let same : only g ≡ told k.leg n b now heard g = ap (λ (l : Leg). told l n b now heard g) (sym c.in-Below.is) in
    heard_by f g g d d b k n heard (only) at put same
    (brings_nothing g g g d d refl refl)

pub returns-in-After-clause-moved : goal.returns-in-After-clause-moved
returns-in-After-clause-moved c =
    let f = c.args.self.now.family in
    let g = c.change_call.new.self.family in
    let d = c.args.out.now in
    let b = c.args.branch in
    let k : Call = record (plain_call c.args.call) { left = c.requires.call.0 } in
    let at : call_at f b ≡ Some k = c.requires.call.1 in
    let put : g ≡ with_call b (record k { out = None }) f = c.change_call.ensures.does ∙ ap (λ (o : Option Call). changed_in o b k.caller None f) at in
    let now : Call = record k { out = None } in
    let n = c.args.number.now in
    let heard = c.args.heard.now in
    let same : only g ≡ told k.leg n b now heard g = ap (λ (l : Leg). told l n b now heard g) (sym c.in-After.is) in
    heard_by f g g d d b k n heard (only) at put same
    (brings_nothing g g g d d refl refl)

pub returns-in-Own-clause-moved : goal.returns-in-Own-clause-moved
returns-in-Own-clause-moved c =
    let f = c.args.self.now.family in
    let g = c.change_call.new.self.family in
    let d = c.args.out.now in
    let b = c.args.branch in
    let k : Call = record (plain_call c.args.call) { left = c.requires.call.0 } in
    let at : call_at f b ≡ Some k = c.requires.call.1 in
    let put : g ≡ with_call b (record k { out = None }) f = c.change_call.ensures.does ∙ ap (λ (o : Option Call). changed_in o b k.caller None f) at in
    let now : Call = record k { out = None } in
    let n = c.args.number.now in
    let heard = c.args.heard.now in
    let same : told_end (aim_of c.args.call.aim) b heard g ≡ told k.leg n b now heard g = ap (λ (l : Leg). told l n b now heard g) (sym c.in-Own.is) in
    heard_by f g c.hear_own.new.self.family d c.hear_own.new.out b k n heard (told_end (aim_of c.args.call.aim) b heard) at put same
    c.hear_own.ensures.moved

pub returns-in-Deciding-clause-moved : goal.returns-in-Deciding-clause-moved
returns-in-Deciding-clause-moved c =
    let f = c.args.self.now.family in
    let g = c.change_call.new.self.family in
    let d = c.args.out.now in
    let b = c.args.branch in
    let k : Call = record (plain_call c.args.call) { left = c.requires.call.0 } in
    let at : call_at f b ≡ Some k = c.requires.call.1 in
    let put : g ≡ with_call b (record k { out = None }) f = c.change_call.ensures.does ∙ ap (λ (o : Option Call). changed_in o b k.caller None f) at in
    let now : Call = record k { out = None } in
    let n = c.args.number.now in
    let heard = c.args.heard.now in
    let same : told_participant n heard g ≡ told k.leg n b now heard g = ap (λ (l : Leg). told l n b now heard g) (sym c.in-Deciding.is) in
    heard_by f g c.hear_participant.new.self.family d c.hear_participant.new.out b k n heard (told_participant n heard) at put same
    c.hear_participant.ensures.moved

pub returns-in-Before-clause-moved : goal.returns-in-Before-clause-moved
returns-in-Before-clause-moved c =
    let f = c.args.self.now.family in
    let g = c.change_call.new.self.family in
    let d = c.args.out.now in
    let b = c.args.branch in
    let k : Call = record (plain_call c.args.call) { left = c.requires.call.0 } in
    let at : call_at f b ≡ Some k = c.requires.call.1 in
    let put : g ≡ with_call b (record k { out = None }) f = c.change_call.ensures.does ∙ ap (λ (o : Option Call). changed_in o b k.caller None f) at in
    let now : Call = record k { out = None } in
    let n = c.args.number.now in
    let heard = c.args.heard.now in
    let same : told_before b c.in-Before.called now heard g ≡ told k.leg n b now heard g = ap (λ (l : Leg). told l n b now heard g) (sym c.in-Before.is) in
    heard_by f g c.hear_before.new.self.family d c.hear_before.new.out b k n heard (told_before b c.in-Before.called now heard) at put same
    (c.hear_before.ensures.moved now (ap (λ (x : Family). call_at x b) put ∙ call_put f b k now at) refl)

pub returns-in-Below-clause-can : goal.returns-in-Below-clause-can
returns-in-Below-clause-can c = λ m can.
    let f = c.args.self.now.family in
    let g = c.change_call.new.self.family in
    let d = c.args.out.now in
    let b = c.args.branch in
    let k : Call = record (plain_call c.args.call) { left = c.requires.call.0 } in
    let at : call_at f b ≡ Some k = c.requires.call.1 in
    let put : g ≡ with_call b (record k { out = None }) f = c.change_call.ensures.does ∙ ap (λ (o : Option Call). changed_in o b k.caller None f) at in
    let now : Call = record k { out = None } in
    let n = c.args.number.now in
    let heard = c.args.heard.now in
    can_less (m + 2) m g d (omega arith) (can_hear (m + 2) b f g d k at put can)

pub returns-in-After-clause-can : goal.returns-in-After-clause-can
returns-in-After-clause-can c = λ m can.
    let f = c.args.self.now.family in
    let g = c.change_call.new.self.family in
    let d = c.args.out.now in
    let b = c.args.branch in
    let k : Call = record (plain_call c.args.call) { left = c.requires.call.0 } in
    let at : call_at f b ≡ Some k = c.requires.call.1 in
    let put : g ≡ with_call b (record k { out = None }) f = c.change_call.ensures.does ∙ ap (λ (o : Option Call). changed_in o b k.caller None f) at in
    let now : Call = record k { out = None } in
    let n = c.args.number.now in
    let heard = c.args.heard.now in
    can_less (m + 2) m g d (omega arith) (can_hear (m + 2) b f g d k at put can)

pub returns-in-Own-clause-can : goal.returns-in-Own-clause-can
returns-in-Own-clause-can c = λ m can.
    let f = c.args.self.now.family in
    let g = c.change_call.new.self.family in
    let d = c.args.out.now in
    let b = c.args.branch in
    let k : Call = record (plain_call c.args.call) { left = c.requires.call.0 } in
    let at : call_at f b ≡ Some k = c.requires.call.1 in
    let put : g ≡ with_call b (record k { out = None }) f = c.change_call.ensures.does ∙ ap (λ (o : Option Call). changed_in o b k.caller None f) at in
    let now : Call = record k { out = None } in
    let n = c.args.number.now in
    let heard = c.args.heard.now in
    c.hear_own.ensures.can m (can_less (m + 2) (m + 1) g d (omega arith) (can_hear (m + 2) b f g d k at put can))

pub returns-in-Before-clause-can : goal.returns-in-Before-clause-can
returns-in-Before-clause-can c = λ m can.
    let f = c.args.self.now.family in
    let g = c.change_call.new.self.family in
    let d = c.args.out.now in
    let b = c.args.branch in
    let k : Call = record (plain_call c.args.call) { left = c.requires.call.0 } in
    let at : call_at f b ≡ Some k = c.requires.call.1 in
    let put : g ≡ with_call b (record k { out = None }) f = c.change_call.ensures.does ∙ ap (λ (o : Option Call). changed_in o b k.caller None f) at in
    let now : Call = record k { out = None } in
    let n = c.args.number.now in
    let heard = c.args.heard.now in
    c.hear_before.ensures.can m (can_less (m + 2) (m + 1) g d (omega arith) (can_hear (m + 2) b f g d k at put can))

pub returns-in-Deciding-clause-can : goal.returns-in-Deciding-clause-can
returns-in-Deciding-clause-can c = λ m can.
    let f = c.args.self.now.family in
    let g = c.change_call.new.self.family in
    let d = c.args.out.now in
    let b = c.args.branch in
    let k : Call = record (plain_call c.args.call) { left = c.requires.call.0 } in
    let at : call_at f b ≡ Some k = c.requires.call.1 in
    let put : g ≡ with_call b (record k { out = None }) f = c.change_call.ensures.does ∙ ap (λ (o : Option Call). changed_in o b k.caller None f) at in
    let now : Call = record k { out = None } in
    let n = c.args.number.now in
    let heard = c.args.heard.now in
    c.hear_participant.ensures.can m (can_hear (m + 2) b f g d k at put can)
