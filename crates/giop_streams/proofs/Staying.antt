-- A part that stands in front of octets stands there too where more octets follow, and a part that is refused stays
-- refused.
use Rattle.std.proofs.Common.{◌≡◌, ℕ, ◌+◌, false, List, ◌∷◌, ◌++◌, ◌≤◌, inl, inr, not, ltb, length, take, drop, Ok, Err, refl, sym, ap, ◌∙◌, append_assoc, arith, cond}
use Rattle.std.specs.Prelude.{◌≢◌}
use Rattle.std.proofs.lemmas.Bool.{le-ltb}
use Rattle.std.proofs.lemmas.List.{take_at, drop-append-le, drop_at, length-append, take-append-le}
use Rattle.giop_frames.specs.declared.fault.FrameFault.{FrameFault}
use Rattle.giop_frames.specs.declared.fault.FrameFault.TheVariants.{BadFragment, Short}
use Rattle.giop_frames.specs.declared.header_walk.HeaderWalk.{HeaderWalk}
use Rattle.giop_frames.specs.declared.layout.Version.{Version}
use Rattle.giop_frames.specs.Header.{magic, version_octets, type_octet, header_at}
use Rattle.giop_frames.specs.HeaderWalk.{IsSound}
use Rattle.giop_frames.specs.Laws.{HeaderLaws}
use Rattle.giop_streams.specs.Stream.{Part, IsStreamPart, may_be_part, part_at, part_header_at}
use Rattle.giop_streams.specs.StreamInside.{Follows}
use Rattle.giop_streams.proofs.Results.{bind_err, guard_err}
use Rattle.giop_streams.proofs.Holding.{part_found}

-- a part is found, whatever follows it
pub part_only : HeaderLaws → (versions : List Version) → (p : Part) (octets rest : List ℕ) → IsStreamPart versions p octets → part_at versions (octets ++ rest) ≡ Ok (p, rest)
unfolding part_at part_header_at
part_only laws versions p octets rest is =
    let h = p.header in
    let w = is.part in
    let front : List ℕ = magic ++ (version_octets h.version ++ (w.flags ∷ type_octet h.kind ∷ w.size)) in
    let size : length front ≡ 12 = omega (arith, w.sized.size) in
    let all : length octets ≡ 12 + h.size = omega (arith, ap length w.parts, length-append front p.content, size, w.counted) in
    let behind : octets ++ rest ≡ front ++ (p.content ++ rest) = ap (λ (x : List ℕ). x ++ rest) w.parts ∙ append_assoc front p.content rest in
    let content : take h.size (drop 12 (octets ++ rest)) ≡ p.content = ap (λ (x : List ℕ). take h.size (drop 12 x)) behind ∙ ap (take h.size) (drop_at front (p.content ++ rest) 12 size) ∙ take_at p.content rest h.size w.counted in
    let long : ltb (length (octets ++ rest)) (12 + h.size) ≡ false = le-ltb _ _ (omega (arith, all, length-append octets rest)) in
    rw (laws.only versions h p.content octets rest is.admitted w, is.may_be, long, content, drop_at octets rest (12 + h.size) all) refl

-- a part that is found is found with more octets too
pub part_stays : HeaderLaws → (versions : List Version) → (octets more : List ℕ) (p : Part) (rest : List ℕ) → part_at versions octets ≡ Ok (p, rest) → part_at versions (octets ++ more) ≡ Ok (p, rest ++ more)
part_stays laws versions octets more p rest e =
    let f = part_found laws versions octets p rest e in
    ap (part_at versions) (ap (λ (x : List ℕ). x ++ more) f.parts ∙ append_assoc f.front rest more) ∙ part_only laws versions p f.front (rest ++ more) f.is_part

-- a walk over a header follows more octets too
pub follows_more : (versions : List Version) (start : ℕ) (buffer more : List ℕ) (w : HeaderWalk) → start ≤ length buffer → Follows versions (drop start buffer) w → Follows versions (drop start (buffer ++ more)) w
follows_more versions start buffer more w within f =
    let is : drop start (buffer ++ more) ≡ drop start buffer ++ more = drop-append-le start buffer more within in
    rw is (record {
      sound = f.sound;
      within = omega (arith, f.within, length-append (drop start buffer) more);
      front = f.front ∙ sym (take-append-le w.count (drop start buffer) more f.within);
    })

-- a walk that begins follows any octets
pub follows_none : (versions : List Version) (octets : List ℕ) (w : HeaderWalk) → IsSound versions w → w.count ≡ 0 → Follows versions octets w
follows_none versions octets w sound none = record { sound = sound; within = omega (arith, none); front = rw none refl }

-- a fault of a part's header stays
part_header_stays : HeaderLaws → (versions : List Version) → (octets more : List ℕ) (fault : FrameFault) → part_header_at versions octets ≡ Err fault → fault ≢ Short → part_header_at versions (octets ++ more) ≡ Err fault
unfolding part_header_at
part_header_stays laws versions octets more fault e other =
    elim (bind_err (header_at versions octets) (λ h. cond (not (may_be_part h)) (Err BadFragment) (Ok h)) fault e) [
      | inl a ↦ rw (laws.stays versions octets more fault a other) refl
      | inr a ↦ rw (laws.same versions octets more (laws.long versions octets a.0 a.1), a.1) a.2
    ]

-- a fault of a part stays
pub fault_stays : HeaderLaws → (versions : List Version) → (octets more : List ℕ) (fault : FrameFault) → part_at versions octets ≡ Err fault → fault ≢ Short → part_at versions (octets ++ more) ≡ Err fault
unfolding part_at
fault_stays laws versions octets more fault e other =
    elim (bind_err (part_header_at versions octets) _ fault e) [
      | inl a ↦ rw (part_header_stays laws versions octets more fault a other) refl
      | inr a ↦ elim (guard_err (ltb (length octets) (12 + a.0.size)) Short _ fault a.2) [
        | inl b ↦ absurd (other (sym b.1))
        | inr b ↦ absurd (let no = b.1 in cc)
      ]
    ]
