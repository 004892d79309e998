use Rattle.std.proofs.Common.{◌≡◌, rules, Bool, false, true, subst}
use Rattle.decision_journal.specs.Journal.{header}
use Rattle.decision_journal.proofs.Starts.{made_safe_told, made_started_told}
use Rattle.std.proofs.lemmas.Result.{err_from_is_err_and}
use Rattle.ots_outside.specs.Asked.{IsAsked}
use Rattle.decision_journal.specs.Asking.{create_calls}
use Rattle.decision_journal.specs.Laws.{is_letter_due}
use Rattle.decision_journal.proofs.Asking.{begun_all}
use Rattle.decision_journal.proofs.loading.create.Goals as goal

pub returns-in-Err-clause-safe : goal.returns-in-Err-clause-safe
returns-in-Err-clause-safe g c =
    made_safe_told c.args.service c.args.octets.now (g.D.Disk.told c.args.disk.now) (g.D.Disk.told c.create_at.new.disk) c.requires.read c.requires.settled c.requires.fresh c.create_at.ensures.way

pub returns-in_err-to_vec-clause-safe : goal.returns-in_err-to_vec-clause-safe
returns-in_err-to_vec-clause-safe g c =
    made_safe_told c.args.service c.args.octets.now (g.D.Disk.told c.args.disk.now) (g.D.Disk.told c.create_at.new.disk) c.requires.read c.requires.settled c.requires.fresh c.create_at.ensures.way

pub returns-clause-safe : goal.returns-clause-safe
returns-clause-safe g c =
    made_safe_told c.args.service c.args.octets.now (g.D.Disk.told c.args.disk.now) (g.D.Disk.told c.create_at.new.disk) c.requires.read c.requires.settled c.requires.fresh c.create_at.ensures.way

pub returns-clause-started : goal.returns-clause-started
returns-clause-started g c =
    let l_is : c.in_ok-to_vec.field-0.items ≡ header c.args.service = search rules in made_started_told c.args.service c.args.octets.now _ _ (g.D.Disk.told c.args.disk.now) (g.D.Disk.told c.create_at.new.disk) c.requires.read c.requires.settled c.requires.fresh l_is c.new.ensures c.in_default.ensures.ok

pub returns-in-Err-clause-asked : goal.returns-in-Err-clause-asked
returns-in-Err-clause-asked g c = subst (λ (b : Bool). IsAsked g.D.Disk.asked false (create_calls c.args.service b) c.args.disk.now c.create_at.new.disk) c.is_due.ensures c.in-Err.ensures.asked

pub returns-in_err-to_vec-clause-asked : goal.returns-in_err-to_vec-clause-asked
returns-in_err-to_vec-clause-asked g c =
    let p = err_from_is_err_and c.from_residual.result c.from_residual.ensures.1 in
    rw (p.1) (begun_all g.D.Disk.asked (create_calls c.args.service (is_letter_due c.args.octets.now)) c.args.disk.now c.create_at.new.disk (subst (λ (b : Bool). IsAsked g.D.Disk.asked true (create_calls c.args.service b) c.args.disk.now c.create_at.new.disk) c.is_due.ensures c.in_default.ensures.asked))

pub returns-clause-asked : goal.returns-clause-asked
returns-clause-asked g c = subst (λ (b : Bool). IsAsked g.D.Disk.asked true (create_calls c.args.service b) c.args.disk.now c.create_at.new.disk) c.is_due.ensures c.in_default.ensures.asked
