-- How a resource is found by its reference.
use Rattle.std.proofs.Common.{◌≡◌, ℕ, Bool, true, false, cond, List, [], ◌∷◌, ◌++◌, zero, suc, ◌==◌, ◌<◌, ◌⊎◌, inl, inr, drop, get_or, length, map, slice_get, Option, Some, None, is_some, refl, sym, ap, subst, ◌∙◌}
use Rattle.std.specs.Bool.{if◌then◌else◌}
use Rattle.std.specs.Map.{lookup}
use Rattle.std.specs.Option.{option_and_then, option_map, option_or}
use Rattle.std.specs.Str.{bytes_eq}
use Rattle.std.proofs.Math.Seq.{drop-cons}
use Rattle.std.proofs.lemmas.Bool.Decides.{Decides-eqb}
use Rattle.std.proofs.lemmas.Slice.Eq.{bytes_eq-Decides}
use Rattle.nodes_world.specs.World.{NamedKey}
use Rattle.nodes_parts.specs.Referring.{FindsFirst, LeadThere, entry_of, digest_of, first_so, led_at, named, referred_in}
use Rattle.nodes_parts.specs.declared.references.NamedKey.{NamedKey as Kept}

same_octets : (xs ys : List ℕ) → bytes_eq xs ys ≡ true → xs ≡ ys
same_octets xs ys e = (bytes_eq-Decides xs ys).0 e

-- ---- how a resource is found by the digest of its reference

same_digest : (to x : List ℕ) → bytes_eq to x ≡ true → (digest_of to == digest_of x) ≡ true
same_digest to x e = (Decides-eqb (digest_of to) (digest_of x)).1 (ap digest_of (same_octets to x e))

some_same : {m n : ℕ} → Some m ≡ Some n → m ≡ n
some_same e = cc

nothing_by : (k : Kept) (b d : Bool) (o : Option ℕ) (r : Option NamedKey) → (d ≡ true → b ≡ true) → (o ≡ None → r ≡ None)
    → (if b then Some 0 else option_map suc o) ≡ None → cond d (Some (named k)) r ≡ None
nothing_by k true d o r same rest e = absurd (cc)
nothing_by k false true o r same rest e = let h = same refl in absurd (cc)
nothing_by k false false None r same rest e = rest refl
nothing_by k false false (Some n) r same rest e = absurd (cc)

-- where no reference has its digest, a reference leads nowhere
nothing_there : (to : List ℕ) (entries : List (List ℕ × Kept)) → first_so (digest_of to) entries ≡ None → referred_in (map entry_of entries) to ≡ None
nothing_there to [] e = refl
nothing_there to (x ∷ xs) e =
    nothing_by x.1 (digest_of to == digest_of x.0) (bytes_eq to x.0) (first_so (digest_of to) xs) (referred_in (map entry_of xs) to)
    (same_digest to x.0) (nothing_there to xs) e

-- what stands before the first one with its digest leads elsewhere
abbrev LedFrom : List ℕ → List (List ℕ × Kept) → ℕ → Type 0
LedFrom to entries place = referred_in (map entry_of entries) to ≡ referred_in (map entry_of (drop place entries)) to

led_behind_by : (to : List ℕ) (x : List ℕ × Kept) (xs : List (List ℕ × Kept)) (place : ℕ) (b d : Bool) (o : Option ℕ) → bytes_eq to x.0 ≡ d
    → (d ≡ true → b ≡ true) → ((n : ℕ) → o ≡ Some n → LedFrom to xs n)
    → (if b then Some 0 else option_map suc o) ≡ Some place → LedFrom to (x ∷ xs) place
led_behind_by to x xs place true d o is same rest e =
    subst (λ p. LedFrom to (x ∷ xs) p) (some_same e) refl
led_behind_by to x xs place false true o is same rest e = let h = same refl in absurd (cc)
led_behind_by to x xs place false false None is same rest e = absurd (cc)
led_behind_by to x xs place false false (Some n) is same rest e =
    subst (λ p. LedFrom to (x ∷ xs) p) (some_same e)
    (ap (λ b. cond b (Some (named x.1)) (referred_in (map entry_of xs) to)) is ∙ rest n refl)

led_behind : (to : List ℕ) (entries : List (List ℕ × Kept)) (place : ℕ) → first_so (digest_of to) entries ≡ Some place → LedFrom to entries place
led_behind to [] place e = absurd (cc)
led_behind to (x ∷ xs) place e =
    led_behind_by to x xs place (digest_of to == digest_of x.0) (bytes_eq to x.0) (first_so (digest_of to) xs) refl
    (same_digest to x.0) (λ n. led_behind to xs n) e

first_found : (firsts : List (ℕ × ℕ)) (entries : List (List ℕ × Kept)) (to : List ℕ) (digest : ℕ) (o : Option ℕ) → FindsFirst firsts entries
    → digest ≡ digest_of to → lookup (λ k. digest == k) firsts ≡ o → first_so (digest_of to) entries ≡ o
first_found firsts entries to digest o finds is found =
    sym (finds (digest_of to)) ∙ ap (λ n. lookup (λ k. n == k) firsts) (sym is) ∙ found

-- where no place is found for its digest, a reference leads nowhere
pub leads_nowhere : (firsts : List (ℕ × ℕ)) (entries : List (List ℕ × Kept)) (to : List ℕ) (digest : ℕ) → FindsFirst firsts entries
    → digest ≡ digest_of to → lookup (λ k. digest == k) firsts ≡ None → referred_in (map entry_of entries) to ≡ None
leads_nowhere firsts entries to digest finds is none = nothing_there to entries (first_found firsts entries to digest None finds is none)

-- where a place is found, it leads where it leads from that place on
pub leads_from : (firsts : List (ℕ × ℕ)) (entries : List (List ℕ × Kept)) (to : List ℕ) (digest place : ℕ) → FindsFirst firsts entries
    → digest ≡ digest_of to → lookup (λ k. digest == k) firsts ≡ Some place
    → referred_in (map entry_of entries) to ≡ referred_in (map entry_of (drop place entries)) to
leads_from firsts entries to digest place finds is some =
    led_behind to entries place (first_found firsts entries to digest (Some place) finds is some)

-- the reference at a place, and those behind it
pub leads_here : (entries : List (List ℕ × Kept)) (to : List ℕ) (place : ℕ) (e : List ℕ × Kept) (b : Bool) → place < length entries
    → e ≡ get_or entries place e → bytes_eq to e.0 ≡ b
    → referred_in (map entry_of (drop place entries)) to ≡ cond b (Some (named e.1)) (referred_in (map entry_of (drop (suc place) entries)) to)
leads_here entries to place e b within is test =
    ap (λ xs. referred_in (map entry_of xs) to) (drop-cons entries place e within ∙ ap (λ x. x ∷ drop (suc place) entries) (sym is))
    ∙ ap (λ b. cond b (Some (named e.1)) (referred_in (map entry_of (drop (suc place) entries)) to)) test

-- ---- one more reference, behind the others

same_both : (a b : Bool) → (a ≡ true → b ≡ true) → (b ≡ true → a ≡ true) → a ≡ b
same_both true b f g = sym (f refl)
same_both false true f g = g refl
same_both false false f g = refl

same_turned : (m n : ℕ) → (m == n) ≡ (n == m)
same_turned m n =
    same_both (m == n) (n == m) (λ e. (Decides-eqb n m).1 (sym ((Decides-eqb m n).0 e))) (λ e. (Decides-eqb m n).1 (sym ((Decides-eqb n m).0 e)))

octets_turned : (xs ys : List ℕ) → bytes_eq xs ys ≡ bytes_eq ys xs
octets_turned xs ys =
    same_both (bytes_eq xs ys) (bytes_eq ys xs)
    (λ e. (bytes_eq-Decides ys xs).1 (sym (same_octets xs ys e))) (λ e. (bytes_eq-Decides xs ys).1 (sym (same_octets ys xs e)))

first_alone : (b : Bool) → (if b then Some 0 else option_map suc None) ≡ (if b then Some 0 else None)
first_alone true = refl
first_alone false = refl

first_by : (b c : Bool) (o : Option ℕ) (n : ℕ)
    → (if b then Some 0 else option_map suc (option_or o (if c then Some n else None)))
    ≡ option_or (if b then Some 0 else option_map suc o) (if c then Some (suc n) else None)
first_by true c o n = refl
first_by false true None n = refl
first_by false false None n = refl
first_by false c (Some m) n = refl

first_more : (d : ℕ) (entries : List (List ℕ × Kept)) (x : List ℕ × Kept)
    → first_so d (entries ++ x ∷ []) ≡ option_or (first_so d entries) (if d == digest_of x.0 then Some (length entries) else None)
first_more d [] x = first_alone (d == digest_of x.0)
first_more d (y ∷ ys) x =
    ap (λ (o : Option ℕ). if d == digest_of y.0 then Some 0 else option_map suc o) (first_more d ys x)
    ∙ first_by (d == digest_of y.0) (d == digest_of x.0) (first_so d ys) (length ys)

-- its place is found where none before it has its digest
pub finds_more : (firsts after : List (ℕ × ℕ)) (entries : List (List ℕ × Kept)) (x : List ℕ × Kept) (digest place : ℕ) → FindsFirst firsts entries
    → digest ≡ digest_of x.0 → place ≡ length entries
    → ((d : ℕ) → lookup (λ k. d == k) after ≡ option_or (lookup (λ k. d == k) firsts) (if digest == d then Some place else None))
    → FindsFirst after (entries ++ x ∷ [])
finds_more firsts after entries x digest place finds is at put = λ d.
    put d
    ∙ ap (λ o. option_or o (if digest == d then Some place else None)) (finds d)
    ∙ ap (λ (b : Bool). option_or (first_so d entries) (if b then Some place else None)) (same_turned digest d ∙ ap (λ n. d == n) is)
    ∙ ap (λ n. option_or (first_so d entries) (if d == digest_of x.0 then Some n else None)) at
    ∙ sym (first_more d entries x)

or_picked : (b : Bool) (k : NamedKey) (o p : Option NamedKey) → cond b (Some k) (option_or o p) ≡ option_or (cond b (Some k) o) p
or_picked true k o p = refl
or_picked false k o p = refl

or_alone : (b : Bool) (k : NamedKey) → cond b (Some k) None ≡ (if b then Some k else None)
or_alone true k = refl
or_alone false k = refl

referred_more : (entries : List (List ℕ × Kept)) (x : List ℕ × Kept) (octets : List ℕ)
    → referred_in (map entry_of (entries ++ x ∷ [])) octets
    ≡ option_or (referred_in (map entry_of entries) octets) (if bytes_eq octets x.0 then Some (named x.1) else None)
referred_more [] x octets = or_alone (bytes_eq octets x.0) (named x.1)
referred_more (y ∷ ys) x octets =
    ap (cond (bytes_eq octets y.0) (Some (named y.1))) (referred_more ys x octets)
    ∙ or_picked (bytes_eq octets y.0) (named y.1) (referred_in (map entry_of ys) octets) (if bytes_eq octets x.0 then Some (named x.1) else None)

or_chosen : (b : Bool) (o : Option NamedKey) (k : NamedKey) → option_or o (if b then Some k else None) ≡ (if b then option_or o (Some k) else o)
or_chosen true o k = refl
or_chosen false None k = refl
or_chosen false (Some x) k = refl

-- it leads to its resource, where it led nowhere, and others lead where they did
pub leads_too : (entries : List (List ℕ × Kept)) (x : List ℕ × Kept) (octets : List ℕ)
    → referred_in (map entry_of (entries ++ x ∷ [])) octets
    ≡ (if bytes_eq x.0 octets then option_or (referred_in (map entry_of entries) octets) (Some (named x.1)) else referred_in (map entry_of entries) octets)
leads_too entries x octets =
    referred_more entries x octets
    ∙ ap (λ (b : Bool). option_or (referred_in (map entry_of entries) octets) (if b then Some (named x.1) else None)) (octets_turned octets x.0)
    ∙ or_chosen (bytes_eq x.0 octets) (referred_in (map entry_of entries) octets) (named x.1)

-- ---- each reference leads to the resource that stands beside it

some_is : {d e : List ℕ × Kept} → Some d ≡ Some e → d ≡ e
some_is h = cc

-- what stands among others and one more stands among them, or is that one
stood_before : (entries : List (List ℕ × Kept)) (x : List ℕ × Kept) (place : ℕ) (e : List ℕ × Kept)
    → slice_get (entries ++ x ∷ []) place ≡ Some e → (slice_get entries place ≡ Some e) ⊎ (e ≡ x)
stood_before [] x zero e at = inr (sym (some_is at))
stood_before [] x (suc place) e at = absurd (cc)
stood_before (y ∷ ys) x zero e at = inl at
stood_before (y ∷ ys) x (suc place) e at = stood_before ys x place e at

led_as_before : (entries : List (List ℕ × Kept)) (x : List ℕ × Kept) (to : List ℕ) (leads : NamedKey) → referred_in (map entry_of entries) to ≡ Some leads
    → referred_in (map entry_of (entries ++ x ∷ [])) to ≡ Some leads
led_as_before entries x to leads led =
    referred_more entries x to ∙ ap (λ o. option_or o (if bytes_eq to x.0 then Some (named x.1) else None)) led

same_as_itself : (xs : List ℕ) → bytes_eq xs xs ≡ true
same_as_itself xs = (bytes_eq-Decides xs xs).1 refl

led_newly : (entries : List (List ℕ × Kept)) (x : List ℕ × Kept) → referred_in (map entry_of entries) x.0 ≡ None
    → referred_in (map entry_of (entries ++ x ∷ [])) x.0 ≡ Some (named x.1)
led_newly entries x nowhere =
    referred_more entries x x.0
    ∙ ap (λ o. option_or o (if bytes_eq x.0 x.0 then Some (named x.1) else None)) nowhere
    ∙ ap (λ (b : Bool). if b then Some (named x.1) else None) (same_as_itself x.0)

led_there_by : (entries : List (List ℕ × Kept)) (x : List ℕ × Kept) (place : ℕ) (e : List ℕ × Kept) → LeadThere entries
    → referred_in (map entry_of entries) x.0 ≡ None → (slice_get entries place ≡ Some e) ⊎ (e ≡ x)
    → referred_in (map entry_of (entries ++ x ∷ [])) e.0 ≡ Some (named e.1)
led_there_by entries x place e there nowhere (inl at) = led_as_before entries x e.0 (named e.1) (there place e at)
led_there_by entries x place e there nowhere (inr is) =
    subst (λ y. referred_in (map entry_of (entries ++ x ∷ [])) y.0 ≡ Some (named y.1)) (sym is) (led_newly entries x nowhere)

-- and so with one more that led nowhere
pub lead_there_too : (entries : List (List ℕ × Kept)) (x : List ℕ × Kept) → LeadThere entries → referred_in (map entry_of entries) x.0 ≡ None
    → LeadThere (entries ++ x ∷ [])
lead_there_too entries x there nowhere = λ place e at. led_there_by entries x place e there nowhere (stood_before entries x place e at)

led_by : (entries : List (List ℕ × Kept)) (to : List ℕ) (leads : NamedKey) (o : Option (List ℕ × Kept)) (e : List ℕ × Kept) (b : Bool)
    → o ≡ Some e → bytes_eq to e.0 ≡ b → referred_in (map entry_of entries) e.0 ≡ Some (named e.1)
    → (if b then Some (named e.1) else None) ≡ Some leads → referred_in (map entry_of entries) to ≡ Some leads
led_by entries to leads o e true is same led found = ap (referred_in (map entry_of entries)) (same_octets to e.0 same) ∙ led ∙ found
led_by entries to leads o e false is same led found = absurd (cc)

led_where : (entries : List (List ℕ × Kept)) (place : ℕ) (to : List ℕ) (leads : NamedKey) (o : Option (List ℕ × Kept)) → LeadThere entries
    → slice_get entries place ≡ o → option_and_then (λ (e : List ℕ × Kept). if bytes_eq to e.0 then Some (named e.1) else None) o ≡ Some leads
    → referred_in (map entry_of entries) to ≡ Some leads
led_where entries place to leads None there at found = absurd (cc)
led_where entries place to leads (Some e) there at found =
    led_by entries to leads (Some e) e (bytes_eq to e.0) refl refl (there place e at) found

-- where the one at a place is this one, it leads to the resource there
pub leads_at : (entries : List (List ℕ × Kept)) (place : ℕ) (to : List ℕ) (leads : NamedKey) → LeadThere entries
    → led_at entries place to ≡ Some leads → referred_in (map entry_of entries) to ≡ Some leads
leads_at entries place to leads there found = led_where entries place to leads (slice_get entries place) there refl found

pub none_is : (o : Option Kept) → is_some o ≡ false → option_map named o ≡ None
none_is None e = refl
none_is (Some k) e = absurd (cc)
