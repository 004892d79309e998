use Rattle.std.proofs.Common.{ℕ, List, inl, inr, subst}
use Rattle.std.proofs.lemmas.Bool.{cases_lt}
use Rattle.decision_journal.specs.Journal.{IsFirstOther}
use Rattle.decision_journal.proofs.scan.other.Goals as goal

pub returns-in-None : goal.returns-in-None
returns-in-None c =
    let first = subst (λ (read : List ℕ). IsFirstOther c.args.known.now read c.first_other-place.result) c.deref.ensures.value c.first_other-place.ensures in
    elim (cases_lt c.first_other-place.result 16) [
      | inl low ↦ rw (c.fault_at.ensures.header low) (inr (c.in-None.ensures.none, first, low))
      | inr high ↦ rw (c.fault_at.ensures.record high) (inr (c.in-None.ensures.none, first, high))
    ]
