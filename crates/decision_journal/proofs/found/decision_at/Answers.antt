use Rattle.std.proofs.Common.{◌∙◌, sym, ap}
use Rattle.std.proofs.lemmas.List.{get_or_default}
use Rattle.decision_journal.specs.declared.journal.Standing.{Standing}
use Rattle.decision_journal.specs.Journal.{is_decision}
use Rattle.decision_journal.proofs.Places.{none_there, one_at, other_at}
use Rattle.decision_journal.proofs.found.decision_at.Goals as goal

pub returns-in-None-clause-index : goal.returns-in-None-clause-index
returns-in-None-clause-index c = sym (none_there c.args.standing.now c.requires c.args.place (λ (s : Standing). is_decision s.item) (sym c.index_of.ensures ∙ c.in-None.is)).0

pub returns-in-None-clause-stands : goal.returns-in-None-clause-stands
returns-in-None-clause-stands c = sym (none_there c.args.standing.now c.requires c.args.place (λ (s : Standing). is_decision s.item) (sym c.index_of.ensures ∙ c.in-None.is)).1

pub returns-then-is_decided-clause-index : goal.returns-then-is_decided-clause-index
returns-then-is_decided-clause-index c =
    sym (one_at c.args.standing.now c.requires c.args.place (λ (s : Standing). is_decision s.item) c.in-Some.index (sym c.index_of.ensures ∙ c.in-Some.is) (λ d within.
    let e = get_or_default c.args.standing.now c.in-Some.index d c.index-standing-index.result within in
    ap (λ (s : Standing). is_decision s.item) e ∙ sym c.is_decided.ensures ∙ c.if-is_decided.true)).0

pub returns-then-is_decided-clause-stands : goal.returns-then-is_decided-clause-stands
returns-then-is_decided-clause-stands c =
    sym (one_at c.args.standing.now c.requires c.args.place (λ (s : Standing). is_decision s.item) c.in-Some.index (sym c.index_of.ensures ∙ c.in-Some.is) (λ d within.
    let e = get_or_default c.args.standing.now c.in-Some.index d c.index-standing-index.result within in
    ap (λ (s : Standing). is_decision s.item) e ∙ sym c.is_decided.ensures ∙ c.if-is_decided.true)).1

pub returns-clause-index : goal.returns-clause-index
returns-clause-index c =
    sym (other_at c.args.standing.now c.requires c.args.place (λ (s : Standing). is_decision s.item) c.in-Some.index (sym c.index_of.ensures ∙ c.in-Some.is) (λ d within.
    let e = get_or_default c.args.standing.now c.in-Some.index d c.index-standing-index.result within in
    ap (λ (s : Standing). is_decision s.item) e ∙ sym c.is_decided.ensures ∙ c.if-is_decided.false)).0

pub returns-clause-stands : goal.returns-clause-stands
returns-clause-stands c =
    sym (other_at c.args.standing.now c.requires c.args.place (λ (s : Standing). is_decision s.item) c.in-Some.index (sym c.index_of.ensures ∙ c.in-Some.is) (λ d within.
    let e = get_or_default c.args.standing.now c.in-Some.index d c.index-standing-index.result within in
    ap (λ (s : Standing). is_decision s.item) e ∙ sym c.is_decided.ensures ∙ c.if-is_decided.false)).1
