-- What a crash leaves of a call: what was on record before it, or is behind it.
use Rattle.std.proofs.Common.{◌≡◌, ◌∙◌, inl, inr, ℕ, List, Option, Some, None, length, refl, sym, ap, subst}
use Rattle.std.specs.Prelude.{◌⊎◌, IfSome}
use Rattle.std.proofs.lemmas.Bool.{both_ways}
use Rattle.ots_outside.specs.Disk.{DiskState, LeavesOnlySince}
use Rattle.decision_journal.specs.Journal.{Found, found_in, is_fresh, with_record}
use Rattle.decision_journal.specs.Laws.{OctetsStandForOneList}
use Rattle.decision_journal.specs.State.{MayFind}
use Rattle.decision_journal.specs.declared.record.JournalRecord.{JournalRecord}
use Rattle.decision_journal.proofs.Loads.{fresh_test, stands_test}
use Rattle.decision_journal.proofs.Since.{since_weaker}
use Rattle.decision_journal.proofs.Ways.{tells_weaker}
use Rattle.resource_end.specs.Crashes.{Gives, IsBeforeOrAfter, Makes, MayBecome, restarted}
use Rattle.resource_end.specs.End.{End}
use Rattle.resource_end.specs.Journaling.{EndState}
use Rattle.resource_end.specs.OnRecord.{CrashesLeaveRecords, IsLoadOf, IsLoadOfEither, IsOnRecord, MakesOneOf}
use Rattle.resource_end.specs.Recall.{recalls}

module _ {D : Type 0} (s : EndState D) (rec : IsOnRecord s) where
  abbrev recalled : JournalRecord → End
  recalled item = recalls (record { place = length s.journal.octets; item = item }) s.end

  by_doubt : (o : Option JournalRecord) → s.journal.doubted ≡ o → (octets : List ℕ) (found : Found) (e : End)
      → MayFind s.journal.octets s.journal.found o octets found → e ≡ restarted s.journal.service found → IsLoadOfEither s e
  by_doubt None is octets found e k same =
      inl (subst (IsLoadOf s.end) (sym (same ∙ ap (restarted s.journal.service) k.1)) rec.known)
  by_doubt (Some item) is octets found e (inl k) same =
      inl (subst (IsLoadOf s.end) (sym (same ∙ ap (restarted s.journal.service) k.1)) rec.known)
  by_doubt (Some item) is octets found e (inr k) same =
      let stands : IsLoadOf (recalled item) (restarted s.journal.service (with_record s.journal.found (length s.journal.octets) item)) =
      subst (λ o. IfSome o (λ r. IsLoadOf (recalled r) (restarted s.journal.service (with_record s.journal.found (length s.journal.octets) r)))) is rec.doubted in
      inr (item, (is, subst (IsLoadOf (recalled item)) (sym (same ∙ ap (restarted s.journal.service) k.1)) stands))

  load_of : (e : End) → MayBecome s.journal e → IsLoadOfEither s e
  load_of e h = by_doubt s.journal.doubted refl h.octets h.found e h.known h.end

-- octets make one end
one_end : OctetsStandForOneList → (service : ℕ) (octets : List ℕ) (a b : End) → Gives service octets a → Makes service octets b → b ≡ a
one_end one service octets a b g (inl h) =
    h.end ∙ ap (λ rs. restarted service (found_in rs)) (one service octets h.records g.records h.stand g.stand) ∙ sym g.end
one_end one service octets a b g (inr h) =
    absurd (both_ways (is_fresh octets) (stands_test service octets g.records g.stand) (fresh_test octets h.0))

pub crashes_leave : OctetsStandForOneList → {D : Type 0} (told : D → Option DiskState) → CrashesLeaveRecords told
crashes_leave one told before after safe was is =
    tells_weaker (told before.journal.disk) (told after.journal.disk) (LeavesOnlySince (IsBeforeOrAfter before.journal after.journal))
    (LeavesOnlySince (MakesOneOf before after))
    (λ s t h. since_weaker (IsBeforeOrAfter before.journal after.journal) (MakesOneOf before after) s t each h) safe
  where
    each : (octets : List ℕ) → IsBeforeOrAfter before.journal after.journal octets → MakesOneOf before after octets
    each octets h e makes = by h.1.1
      where
        same : h.0 ≡ e
        same = sym (one_end one before.journal.service octets h.0 e h.1.0 makes)

        by : MayBecome before.journal h.0 ⊎ MayBecome after.journal h.0 → IsLoadOfEither before e ⊎ IsLoadOfEither after e
        by (inl k) = inl (subst (IsLoadOfEither before) same (load_of before was h.0 k))
        by (inr k) = inr (subst (IsLoadOfEither after) same (load_of after is h.0 k))
