-- A disk after one thing more, and that it still reads one of its images.
use Rattle.std.proofs.Common.{◌≡◌, ◌⊎◌, inl, inr, ℕ, ◌<◌, ◌≤◌, ◌+◌, List, [], ◌∷◌, ◌++◌, length, max, get_or, false, Result, Ok, Err, refl, sym, ap, subst, ◌∙◌, arith}
use Rattle.std.proofs.lemmas.Grind.{common_steps}
use Rattle.std.proofs.lemmas.Bool.{cases_lt}
use Rattle.std.specs.Prelude.{OnOk}
use Rattle.std.specs.Result.{is_err}
use Rattle.ots_outside.specs.declared.mem_disk.DiskEvent.{DiskEvent}
use Rattle.ots_outside.specs.Disk.{DiskState, IsImage, overwritten, written, synced}
use Rattle.ots_outside.specs.MemDisk.{IsKept, after_event, after_events}

pub after_events-push : (disk : DiskState) (events : List DiskEvent) (event : DiskEvent) → after_events disk (events ++ event ∷ []) ≡ after_event (after_events disk events) event
after_events-push disk [] event = refl
after_events-push disk (e ∷ events) event = after_events-push (after_event disk e) events event

pub IsImage-synced : (disk : DiskState) → IsImage (synced disk).present (synced disk).reads
IsImage-synced disk = record { no_shorter = omega arith; no_longer = omega arith; kept = λ i lt none. refl }

length-overwritten : (old octets : List ℕ) (place : ℕ) → place ≤ length old → length (overwritten old place octets) ≡ max (place + length octets) (length old)
length-overwritten old octets place within = grind (arith, common_steps)

-- a place outside of the range keeps its octet
outside : (old octets : List ℕ) (place i : ℕ) → place ≤ length old → (i < place) ⊎ (place + length octets ≤ i) → get_or (overwritten old place octets) i 0 ≡ get_or old i 0
outside old octets place i within (inl before) = grind (arith, common_steps)
outside old octets place i within (inr behind) = grind (arith, common_steps)

pub IsImage-written : (disk : DiskState) (place : ℕ) (octets : List ℕ) → place ≤ length disk.reads → IsImage disk.present disk.reads → IsImage (written place octets disk).present (written place octets disk).reads
IsImage-written disk place octets within image =
    let long = length-overwritten disk.reads octets place within in
    record {
      no_shorter = omega (arith, long, image.no_shorter);
      no_longer = omega (arith, long, image.no_longer);
      kept = λ i lt none.
          let elsewhere : (i < place) ⊎ (place + length octets ≤ i) = elim (cases_lt i place) [
            | inl before ↦ inl before
            | inr le ↦ elim (cases_lt i (place + length octets)) [ inl inside ↦ absurd (none (inl (le, inside))) | inr behind ↦ inr behind ]
          ] in
          outside disk.reads octets place i within elsewhere ∙ image.kept i lt (λ old. none (inr old));
    }

-- what was told once more, to a disk that is known
pub after_one_more : (start now : DiskState) (events more : List DiskEvent) (event : DiskEvent) → after_events start events ≡ now → more ≡ events ++ event ∷ [] → after_events start more ≡ after_event now event
after_one_more start now events more event is same = ap (after_events start) same ∙ after_events-push start events event ∙ ap (λ disk. after_event disk event) is

-- the octets that are kept, after a disk came to be another
pub IsKept-at : (disk known : DiskState) (octets : List ℕ) → disk ≡ known → known.reads ≡ octets → IsImage known.present known.reads → IsKept disk octets
IsKept-at disk known octets is reads image = subst (λ d. IsKept d octets) (sym is) (record { reads = reads; image = image })

-- what holds where a call succeeded, of one that did
pub on_ok : {T E P : Type 0} (result : Result T E) → is_err result ≡ false → OnOk result P → P
on_ok (Ok x) e p = p
on_ok (Err x) e p = absurd cc

pub OnOk-always : {T E P : Type 0} (result : Result T E) → P → OnOk result P
OnOk-always (Ok x) p = p
OnOk-always (Err x) p = tt
