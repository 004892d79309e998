-- What stands in front where no part is whole is short.
use Rattle.std.proofs.Common.{◌≡◌, ℕ, ◌+◌, ◌≤◌, cond, ltb, List, length, drop, Ok, Err, subst, inl, inr, arith}
use Rattle.std.specs.Prelude.{not}
use Rattle.std.proofs.lemmas.Bool.{ltb-true}
use Rattle.giop_frames.specs.declared.fault.FrameFault.TheVariants as faults
use Rattle.giop_frames.specs.declared.header.Header.{Header}
use Rattle.giop_frames.specs.declared.layout.Version.{Version}
use Rattle.giop_frames.specs.Limits.{size_limit}
use Rattle.giop_frames.specs.Header.{content_behind, header_at}
use Rattle.giop_frames.specs.Laws.{HeaderLaws}
use Rattle.giop_streams.specs.Limits.{partial_limit}
use Rattle.giop_streams.specs.Stream.{may_be_part, part_at, part_header_at, part_of}
use Rattle.giop_streams.proofs.Results.{bind_err, bind_ok, guard_err, guard_ok, ok_is}

-- the size of a part is within the limit
header_size : HeaderLaws → (versions : List Version) (octets : List ℕ) (h : Header) → part_header_at versions octets ≡ Ok h → h.size ≤ size_limit
unfolding part_header_at
header_size laws versions octets h e =
    let a = bind_ok (header_at versions octets) (λ h. cond (not (may_be_part h)) (Err faults.BadFragment) (Ok h)) h e in
    let b = guard_ok (not (may_be_part a.0)) faults.BadFragment (Ok a.0) h a.2 in
    let same : a.0 ≡ h = ok_is a.0 h b.1 in
    subst (λ (x : Header). x.size ≤ size_limit) same (laws.small versions octets a.0 a.1)

-- octets in front of which no part is whole are fewer than the longest part has
pub partial_is_short : HeaderLaws → (versions : List Version) (octets : List ℕ) → part_at versions octets ≡ Err faults.Short → length octets ≤ partial_limit
unfolding part_at part_header_at
partial_is_short laws versions octets e =
    elim (bind_err (part_header_at versions octets) (λ h. cond (ltb (length octets) (12 + h.size)) (Err faults.Short) (Ok (part_of h (content_behind h octets), drop (12 + h.size) octets))) faults.Short e) [
      | inl none ↦ elim (bind_err (header_at versions octets) (λ h. cond (not (may_be_part h)) (Err faults.BadFragment) (Ok h)) faults.Short none) [
        | inl short ↦ omega (arith, laws.short versions octets short)
        | inr header ↦ elim (guard_err (not (may_be_part header.0)) faults.BadFragment (Ok header.0) faults.Short header.2) [
          | inl a ↦ let h : faults.BadFragment ≡ faults.Short = a.1 in absurd cc
          | inr a ↦ absurd (let h = a.1 in cc)
        ]
      ]
      | inr part ↦
          let h : Header = part.0 in
          let b = header_size laws versions octets h part.1 in
          elim (guard_err (ltb (length octets) (12 + h.size)) faults.Short (Ok (part_of h (content_behind h octets), drop (12 + h.size) octets)) faults.Short part.2) [
            | inl a ↦ omega (arith, ltb-true _ _ a.0, b)
            | inr a ↦ absurd (let h = a.1 in cc)
          ]
    ]
