-- What a crash leaves over a run of calls of a disk: runs are joined, and cut short.
use Rattle.std.proofs.Common.{◌≡◌, inl, inr, ℕ, List, [], ◌∷◌, ◌++◌, refl, sym, ap, subst, ◌∙◌, append_assoc, arith}
use Rattle.ots_outside.specs.Disk.{DiskState, Moment, IsImage, IsAfterRefusal, LeavesOnly, EachLeavesOnly, LeavesOnlySince, moments, synced}
use Rattle.decision_journal.specs.Laws.{IsSettled}
use Rattle.decision_journal.proofs.Append.{leaves_at}
use Rattle.decision_journal.proofs.Images.{image_settled}

each_weaker : (P Q : List ℕ → Type 0) → ((c : List ℕ) → P c → Q c) → (more : List Moment) → EachLeavesOnly P more → EachLeavesOnly Q more
each_weaker P Q f [] each = tt
each_weaker P Q f (m ∷ more) each = ((λ c image. f c (each.0 c image)), each_weaker P Q f more each.1)

pub each_append : (P : List ℕ → Type 0) (xs ys : List Moment) → EachLeavesOnly P xs → EachLeavesOnly P ys → EachLeavesOnly P (xs ++ ys)
each_append P [] ys a b = b
each_append P (x ∷ xs) ys a b = (a.0, each_append P xs ys a.1 b)

pub since_weaker : (P Q : List ℕ → Type 0) (s t : DiskState) → ((c : List ℕ) → P c → Q c) → LeavesOnlySince P s t → LeavesOnlySince Q s t
since_weaker P Q s t f since = record {
  more = since.more;
  moments = since.moments;
  at_start = λ c image. f c (since.at_start c image);
  later = each_weaker P Q f since.more since.later;
}

-- nothing happened
pub since_start : (P : List ℕ → Type 0) (s : DiskState) → LeavesOnly P s.present → LeavesOnlySince P s s
since_start P s here = record { more = []; moments = refl; at_start = here; later = tt }

-- one run, and then another
pub since_then : (P : List ℕ → Type 0) (s t u : DiskState) → LeavesOnlySince P s t → LeavesOnlySince P t u → LeavesOnlySince P s u
since_then P s t u a b = record {
  more = b.more ++ a.more;
  moments = b.moments ∙ ap (λ (l : List Moment). b.more ++ l) a.moments ∙ sym (append_assoc b.more a.more (moments s));
  at_start = a.at_start;
  later = each_append P b.more a.more b.later a.later;
}

head_of : (m n : Moment) (ms ns : List Moment) → m ∷ ms ≡ n ∷ ns → m ≡ n
head_of m n ms ns e = cc

-- what a crash leaves at the end of a run
pub leaves_now : (P : List ℕ → Type 0) (s t : DiskState) → LeavesOnlySince P s t → LeavesOnly P t.present
leaves_now P s t since = by_more since.more since.moments since.later
  where
    by_more : (more : List Moment) → moments t ≡ more ++ moments s → EachLeavesOnly P more → LeavesOnly P t.present
    by_more [] e each = leaves_at P t.present s.present (head_of t.present s.present t.earlier s.earlier e) since.at_start
    by_more (m ∷ more) e each = leaves_at P t.present m (head_of t.present m t.earlier (more ++ moments s) e) each.0

-- a disk with the moments of another
pub since_moments : (P : List ℕ → Type 0) (s t u : DiskState) → moments u ≡ moments t → LeavesOnlySince P s t → LeavesOnlySince P s u
since_moments P s t u e since = record { more = since.more; moments = e ∙ since.moments; at_start = since.at_start; later = since.later }

-- a settled disk reads its one image
pub image_of : (s : DiskState) → IsSettled s → IsImage s.present s.reads
image_of s settled = subst (λ (m : Moment). IsImage m s.reads) (sym settled) (record { no_shorter = omega arith; no_longer = omega arith; kept = λ i lt none. refl })

pub leaves_settled : (P : List ℕ → Type 0) (s : DiskState) → IsSettled s → P s.reads → LeavesOnly P s.present
leaves_settled P s settled p = leaves_at P s.present _ settled (λ c image. subst P (sym (image_settled s.reads c image)) p)

-- a sync of a disk that reads one of its images
pub since_synced : (P : List ℕ → Type 0) (s : DiskState) → LeavesOnly P s.present → IsImage s.present s.reads → LeavesOnlySince P s (synced s)
since_synced P s here image = record {
  more = (synced s).present ∷ [];
  moments = refl;
  at_start = here;
  later = (leaves_settled P (synced s) refl (here s.reads image), tt);
}

-- a sync that was refused
pub since_refused : (P : List ℕ → Type 0) (s t : DiskState) → LeavesOnly P s.present → IsImage s.present s.reads → IsAfterRefusal s (synced s) t → LeavesOnlySince P s t
since_refused P s t here image after = elim after.moments [
  | inl same ↦ since_moments P s s t same (since_start P s here)
  | inr same ↦ since_moments P s (synced s) t same (since_synced P s here image)
]
