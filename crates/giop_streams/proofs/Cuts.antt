-- Octets are cut into parts in one way, as far as parts are taken.
use Rattle.std.proofs.Common.{◌≡◌, ℕ, inl, inr, List, [], ◌∷◌, ◌++◌, Option, Some, None, Ok, Err, refl, sym, ap, subst, ◌∙◌, append_assoc}
use Rattle.giop_frames.specs.declared.fault.FrameFault.{FrameFault}
use Rattle.giop_frames.specs.declared.fault.FrameFault.TheVariants.{Short}
use Rattle.giop_streams.specs.declared.framed.Framed.{Framed}
use Rattle.giop_frames.specs.declared.layout.Version.{Version}
use Rattle.giop_streams.specs.Stream.{Part, AreParts, AreTaken, IsCut, IsRefused, IsStream, IsWhole, Refuses, Splits, earliest, messages_of, offset, part_at, part_header_at, says, unfinished}
use Rattle.giop_frames.specs.Header.{header_at, header_of, version_at}
use Rattle.giop_frames.specs.Laws.{HeaderLaws}
use Rattle.giop_streams.proofs.Results.{err_is, ok_is}
use Rattle.giop_streams.proofs.Staying.{fault_stays, part_only, part_stays}

-- ---- parts, the oldest first

-- behind older parts the octets are these parts, the oldest first, of which none is refused, and then the rest
abbrev Follows : List Version → List Part → List ℕ → List Part → List ℕ → Type 0
Follows versions older octets [] rest = octets ≡ rest
Follows versions older octets (p ∷ newer) rest = (behind : List ℕ) × (answer : Option Framed) × (part_at versions octets ≡ Ok (p, behind)) × (says older p ≡ Ok answer) × Follows versions (p ∷ older) behind newer rest

-- older parts and these, the newest first
abbrev onto : List Part → List Part → List Part
onto older [] = older
onto older (p ∷ newer) = onto (p ∷ older) newer

-- no further part is taken
abbrev Stops : List Version → List Part → List ℕ → Type 0
Stops versions older rest = (p : Part) (behind : List ℕ) (answer : Option Framed) → part_at versions rest ≡ Ok (p, behind) → says older p ≡ Ok answer → ⊥

-- what parts follow is told by the octets
one_way : (versions : List Version) → (older : List Part) (octets : List ℕ) (ps qs : List Part) (x y : List ℕ) → Follows versions older octets ps x → Follows versions older octets qs y → Stops versions (onto older ps) x → Stops versions (onto older qs) y → (onto older ps ≡ onto older qs) × (x ≡ y)
one_way versions older octets [] [] x y f g s t = (refl, sym f ∙ g)
one_way versions older octets [] (q ∷ qs) x y f g s t = absurd (s q g.0 g.1 (ap (part_at versions) (sym f) ∙ g.2) g.3)
one_way versions older octets (p ∷ ps) [] x y f g s t = absurd (t p f.0 f.1 (ap (part_at versions) (sym g) ∙ f.2) f.3)
one_way versions older octets (p ∷ ps) (q ∷ qs) x y f g s t =
    let same = ok_is {A = Part × List ℕ} (q, g.0) (p, f.0) (sym g.2 ∙ f.2) in
    let part : q ≡ p = ap (λ (z : Part × List ℕ). z.0) same in
    let follows = subst (λ (z : Part × List ℕ). Follows versions (z.0 ∷ older) z.1 qs y) same g.4 in
    let stops = subst (λ (z : Part). Stops versions (onto (z ∷ older) qs) y) part t in
    let r = one_way versions (p ∷ older) f.0 ps qs x y f.4 follows s stops in
    (r.0 ∙ ap (λ (z : Part). onto (z ∷ older) qs) (sym part), r.1)

-- ---- parts, the newest first

-- the octets are these parts, turned round, and then the rest
record Turned (versions : List Version) (parts : List Part) (octets rest : List ℕ) : Type 0 where
  newer : List Part
  follows : Follows versions [] octets newer rest
  same : onto [] newer ≡ parts

-- parts with newer ones behind them, turned round
turned : HeaderLaws → (versions : List Version) → (parts newer : List Part) (front rest last : List ℕ) → AreParts versions parts front → AreTaken parts → Follows versions parts rest newer last → Turned versions (onto parts newer) (front ++ rest) last
turned laws versions [] newer front rest last are taken f = record { newer = newer; follows = subst (λ (x : List ℕ). Follows versions [] (x ++ rest) newer last) (sym are) f; same = refl }
turned laws versions (p ∷ older) newer front rest last are taken f =
    let octets : front ++ rest ≡ are.0 ++ (are.1 ++ rest) = ap (λ (x : List ℕ). x ++ rest) are.2 ∙ append_assoc are.0 are.1 rest in
    let t = turned laws versions older (p ∷ newer) are.0 (are.1 ++ rest) last are.4 taken.2 (rest, taken.0, part_only laws versions p are.1 rest are.3, taken.1, f) in
    subst (λ (x : List ℕ). Turned versions (onto (p ∷ older) newer) x last) (sym octets) t

-- a split, turned round
cut : HeaderLaws → (versions : List Version) → (octets : List ℕ) (parts : List Part) (messages : List Framed) (rest : List ℕ) → Splits versions octets parts messages rest → Turned versions parts octets rest
cut laws versions octets parts messages rest s = subst (λ (x : List ℕ). Turned versions parts x rest) (sym s.whole) (turned laws versions parts [] s.front rest rest s.are_parts s.taken refl)

-- octets are split in one way, as far as parts are taken
one_cut : HeaderLaws → (versions : List Version) → (octets : List ℕ) (ps qs : List Part) (messages others : List Framed) (x y : List ℕ) → Splits versions octets ps messages x → Splits versions octets qs others y → Stops versions ps x → Stops versions qs y → (ps ≡ qs) × (messages ≡ others) × (x ≡ y)
one_cut laws versions octets ps qs messages others x y p q s t =
    let a = cut laws versions octets ps messages x p in
    let b = cut laws versions octets qs others y q in
    let r = one_way versions [] octets a.newer b.newer x y a.follows b.follows (subst (λ (z : List Part). Stops versions z x) (sym a.same) s) (subst (λ (z : List Part). Stops versions z y) (sym b.same) t) in
    let parts : ps ≡ qs = sym a.same ∙ r.0 ∙ b.same in
    (parts, p.messages_are ∙ ap messages_of parts ∙ sym q.messages_are, r.1)

-- ---- where parts stop

-- no part is taken of less than a whole one
short_stops : (versions : List Version) → (older : List Part) (rest : List ℕ) → part_at versions rest ≡ Err Short → Stops versions older rest
short_stops versions older rest e p behind answer found said = absurd cc

-- no part is taken that is refused
refused_stops : (versions : List Version) → (older : List Part) (rest : List ℕ) (fault : FrameFault) → Refuses versions older rest fault → Stops versions older rest
refused_stops versions older rest fault (inl r) p behind answer found said = let no = r.0 in absurd cc
refused_stops versions older rest fault (inr r) p behind answer found said =
    let same = ok_is {A = Part × List ℕ} (r.0, r.1) (p, behind) (sym r.2 ∙ found) in
    let refused : says older p ≡ Err fault = ap (λ (z : Part × List ℕ). says older z.0) (sym same) ∙ r.3 in
    absurd cc

-- a refusal has one fault
one_fault : (versions : List Version) → (older : List Part) (rest : List ℕ) (f g : FrameFault) → Refuses versions older rest f → Refuses versions older rest g → f ≡ g
one_fault versions older rest f g (inl a) (inl b) = err_is {A = Part × List ℕ} f g (sym a.0 ∙ b.0)
one_fault versions older rest f g (inl a) (inr b) = let no = sym a.0 ∙ b.2 in absurd cc
one_fault versions older rest f g (inr a) (inl b) = let no = sym b.0 ∙ a.2 in absurd cc
one_fault versions older rest f g (inr a) (inr b) =
    let same = ok_is {A = Part × List ℕ} (a.0, a.1) (b.0, b.1) (sym a.2 ∙ b.2) in
    err_is {A = Option Framed} f g (sym a.3 ∙ ap (λ (z : Part × List ℕ). says older z.0) same ∙ b.3)

-- less than a whole part is not refused
short_passes : (versions : List Version) → (older : List Part) (rest : List ℕ) (fault : FrameFault) → part_at versions rest ≡ Err Short → Refuses versions older rest fault → ⊥
short_passes versions older rest fault e (inl r) = r.1 (err_is {A = Part × List ℕ} fault Short (sym r.0 ∙ e))
short_passes versions older rest fault e (inr r) = let no = sym e ∙ r.2 in absurd cc

-- ---- with more octets

-- what is refused is refused with more octets too
refuses_more : HeaderLaws → (versions : List Version) → (older : List Part) (rest more : List ℕ) (fault : FrameFault) → Refuses versions older rest fault → Refuses versions older (rest ++ more) fault
refuses_more laws versions older rest more fault (inl r) = inl (fault_stays laws versions rest more fault r.0 r.1, r.1)
refuses_more laws versions older rest more fault (inr r) = inr (r.0, r.1 ++ more, part_stays laws versions rest more r.0 r.1 r.2, r.3)

-- a split with a longer rest
splits_more : (versions : List Version) → (octets more : List ℕ) (parts : List Part) (messages : List Framed) (rest : List ℕ) → Splits versions octets parts messages rest → Splits versions (octets ++ more) parts messages (rest ++ more)
splits_more versions octets more parts messages rest s = record {
  front = s.front;
  whole = ap (λ (x : List ℕ). x ++ more) s.whole ∙ append_assoc s.front rest more;
  are_parts = s.are_parts;
  taken = s.taken;
  messages_are = s.messages_are;
}

-- octets are one stream
pub one_stream : HeaderLaws → (versions : List Version) → (messages others : List Framed) (rest more octets : List ℕ) → IsStream versions messages rest octets → IsStream versions others more octets → (messages ≡ others) × (rest ≡ more)
one_stream laws versions messages others rest more octets s t =
    let r = one_cut laws versions octets s.parts t.parts messages others rest more s.splits t.splits (short_stops versions s.parts rest s.partial) (short_stops versions t.parts more t.partial) in
    (r.1, r.2)

-- octets are refused in one way, however they go on
pub one_refusal : HeaderLaws → (versions : List Version) → (messages others : List Framed) (place elsewhere : ℕ) (fault another : FrameFault) (octets more : List ℕ)
    → IsRefused versions messages place fault octets → IsRefused versions others elsewhere another (octets ++ more) → (messages ≡ others) × (place ≡ elsewhere) × (fault ≡ another)
one_refusal laws versions messages others place elsewhere fault another octets more s t =
    let all = s.rest ++ more in
    let refused = refuses_more laws versions s.parts s.rest more fault s.refused in
    let r = one_cut laws versions (octets ++ more) s.parts t.parts messages others all t.rest (splits_more versions octets more s.parts messages s.rest s.splits) t.splits (refused_stops versions s.parts all fault refused) (refused_stops versions t.parts t.rest another t.refused) in
    let again : Refuses versions t.parts t.rest fault = subst (λ (z : List ℕ). Refuses versions t.parts z fault) r.2 (subst (λ (z : List Part). Refuses versions z all fault) r.0 refused) in
    (r.1, s.place_is ∙ ap offset r.0 ∙ sym t.place_is, one_fault versions t.parts t.rest fault another again t.refused)

-- what is refused is no stream, however it goes on
pub no_stream : HeaderLaws → (versions : List Version) → (messages others : List Framed) (place : ℕ) (fault : FrameFault) (rest octets more : List ℕ) → IsRefused versions messages place fault octets → IsStream versions others rest (octets ++ more) → ⊥
no_stream laws versions messages others place fault rest octets more s t =
    let all = s.rest ++ more in
    let refused = refuses_more laws versions s.parts s.rest more fault s.refused in
    let r = one_cut laws versions (octets ++ more) s.parts t.parts messages others all rest (splits_more versions octets more s.parts messages s.rest s.splits) t.splits (refused_stops versions s.parts all fault refused) (short_stops versions t.parts rest t.partial) in
    short_passes versions t.parts rest fault t.partial (subst (λ (z : List ℕ). Refuses versions t.parts z fault) r.2 (subst (λ (z : List Part). Refuses versions z all fault) r.0 refused))

-- octets that are refused are refused with more of them too
pub refused_on : HeaderLaws → (versions : List Version) → (messages : List Framed) (place : ℕ) (fault : FrameFault) (octets more : List ℕ) → IsRefused versions messages place fault octets → IsRefused versions messages place fault (octets ++ more)
refused_on laws versions messages place fault octets more r = record {
  parts = r.parts;
  rest = r.rest ++ more;
  splits = splits_more versions octets more r.parts messages r.rest r.splits;
  place_is = r.place_is;
  refused = refuses_more laws versions r.parts r.rest more fault r.refused;
}

-- ---- the end of octets

-- nothing is less than a header, and than a whole part
no_header : (found : Option Version) → header_of found [] ≡ Err Short
no_header None = refl
no_header (Some version) = refl

nothing_short : (versions : List Version) → part_at versions [] ≡ Err Short
unfolding part_at part_header_at header_at
nothing_short versions = rw (no_header (version_at versions [])) refl

-- octets that end between messages don't end inside one
pub not_both : HeaderLaws → (versions : List Version) → (messages others : List Framed) (place : ℕ) (octets : List ℕ) → IsWhole versions messages octets → IsCut versions others place octets → ⊥
not_both laws versions messages others place octets w c =
    let r = one_cut laws versions octets w.parts c.parts messages others [] c.rest w.splits c.splits (short_stops versions w.parts [] (nothing_short versions)) (short_stops versions c.parts c.rest c.partial) in
    elim c.inside [
      | inl some ↦ some (sym (ap unfinished r.0) ∙ w.finished)
      | inr rest ↦ rest (sym r.2)
    ]

-- octets end inside one message
pub one_end : HeaderLaws → (versions : List Version) → (messages others : List Framed) (place elsewhere : ℕ) (octets : List ℕ) → IsCut versions messages place octets → IsCut versions others elsewhere octets → (messages ≡ others) × (place ≡ elsewhere)
one_end laws versions messages others place elsewhere octets c d =
    let r = one_cut laws versions octets c.parts d.parts messages others c.rest d.rest c.splits d.splits (short_stops versions c.parts c.rest c.partial) (short_stops versions d.parts d.rest d.partial) in
    (r.1, c.place_is ∙ ap (λ (ps : List Part). earliest (offset ps) (unfinished ps)) r.0 ∙ sym d.place_is)
