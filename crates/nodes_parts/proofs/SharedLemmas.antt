-- How references that share octets are compared.
use Rattle.std.proofs.Common.{◌≡◌, ℕ, zero, suc, ◌≤◌, slice_index_or, ◌+◌, ◌-◌, ◌*◌, ◌%◌, ◌^◌, ◌<◌, Bool, true, false, not, cond, ◌&&◌, nat_eq, List, [], ◌∷◌, ◌++◌, map, length, take, drop, take-append-drop, refl, sym, ap, ◌∙◌, arith}
use Rattle.std.specs.Str.{bytes_eq}
use Rattle.std.proofs.lemmas.Grind.{common_steps}
use Rattle.std.proofs.Math.Seq.{take-add}
use Rattle.std.proofs.lemmas.Bool.{ne_eqb}
use Rattle.std.proofs.lemmas.Bool.Decides.{Decides-eqb}
use Rattle.std.proofs.lemmas.List.{drop_all, length-map, take-take, take_all}
use Rattle.std.proofs.lemmas.Simd.{length-chunk, length-zip2, mask_l-mod}
use Rattle.std.proofs.lemmas.Slice.Eq.{bytes_eq-Decides}
use Rattle.std.specs.Bool.{one_answer}
use lib.Lanes.{mask_l, top, zip2}

both_so : (a b c : Bool) → (a && (b && c)) ≡ ((a && b) && c)
both_so true b c = refl
both_so false b c = refl

-- octets in two parts are the same where both parts are
parted : (xs ys us vs : List ℕ) → length xs ≡ length us → bytes_eq (xs ++ ys) (us ++ vs) ≡ (bytes_eq xs us && bytes_eq ys vs)
parted [] ys [] vs e = refl
parted [] ys (u ∷ us) vs e = absurd (omega (arith, e))
parted (x ∷ xs) ys [] vs e = absurd (omega (arith, e))
parted (x ∷ xs) ys (u ∷ us) vs e =
    ap (λ t. nat_eq x u && t) (parted xs ys us vs (omega (arith, e))) ∙ both_so (nat_eq x u) (bytes_eq xs us) (bytes_eq ys vs)

front_long : (xs front tail : List ℕ) → length xs ≡ length front + length tail → length (take (length front) xs) ≡ length front
front_long xs front tail e = grind (arith, common_steps, e)

-- octets are these and those where their two parts are
pub in_two : (xs front tail : List ℕ) → length xs ≡ length front + length tail
    → bytes_eq xs (front ++ tail) ≡ (bytes_eq (take (length front) xs) front && bytes_eq (drop (length front) xs) tail)
in_two xs front tail e =
    ap (λ v. bytes_eq v (front ++ tail)) (sym (take-append-drop (length front) xs))
    ∙ parted (take (length front) xs) (drop (length front) xs) front tail (front_long xs front tail e)

not_so : (b : Bool) → (b ≡ true → false ≡ true) → b ≡ false
not_so true f = sym (f refl)
not_so false f = refl

unlike : (xs front tail : List ℕ) → length tail ≡ 16 → length xs ≡ length (front ++ tail) → length xs ≡ length front + 16
unlike xs front tail e same = grind (arith, common_steps, e, same)

-- they are not where they are fewer
pub shorter : (xs front tail : List ℕ) → length tail ≡ 16 → length xs < 16 → bytes_eq xs (front ++ tail) ≡ false
shorter xs front tail e few =
    not_so (bytes_eq xs (front ++ tail))
    (λ same. absurd (omega (arith, few, unlike xs front tail e (ap length ((bytes_eq-Decides xs (front ++ tail)).0 same)))))

-- nor where they are not as many
pub other_length : (xs front tail : List ℕ) → length tail ≡ 16 → nat_eq (length xs - 16) (length front) ≡ false → bytes_eq xs (front ++ tail) ≡ false
other_length xs front tail e other =
    not_so (bytes_eq xs (front ++ tail))
    (λ same. absurd (grind (arith, common_steps, other, unlike xs front tail e (ap length ((bytes_eq-Decides xs (front ++ tail)).0 same)))))

pub same_octets : (xs ys : List ℕ) → bytes_eq xs ys ≡ true → xs ≡ ys
same_octets xs ys e = (bytes_eq-Decides xs ys).0 e

same_next : (xs ys : List ℕ) (at : ℕ) → at < length xs → length xs ≡ length ys → slice_index_or xs at 0 ≡ slice_index_or ys at 0
    → bytes_eq (drop at xs) (drop at ys) ≡ bytes_eq (drop (suc at) xs) (drop (suc at) ys)
same_next [] ys at within e same = absurd (omega (arith, within))
same_next (x ∷ xs) [] at within e same = absurd (omega (arith, e))
same_next (x ∷ xs) (y ∷ ys) zero within e same = ap (λ b. b && bytes_eq xs ys) ((Decides-eqb x y).1 same)
same_next (x ∷ xs) (y ∷ ys) (suc at) within e same = same_next xs ys at (omega (arith, within)) (omega (arith, e)) same

-- octets are the same from a place on where they are from the next one on
pub same_here : (xs ys : List ℕ) (at : ℕ) → at < length xs → length xs ≡ length ys → slice_index_or xs at 0 ≡ slice_index_or ys at 0
    → bytes_eq (drop at xs) (drop at ys) ≡ bytes_eq (drop (at + 1) xs) (drop (at + 1) ys)
same_here xs ys at within e same =
    let next : suc at ≡ at + 1 = omega arith in
    same_next xs ys at within e same ∙ ap (λ n. bytes_eq (drop n xs) (drop n ys)) next

-- behind the last one there are none
pub same_behind : (xs ys : List ℕ) (at : ℕ) → length xs ≤ at → length xs ≡ length ys → bytes_eq (drop at xs) (drop at ys) ≡ true
same_behind xs ys at over e =
    let none : drop at xs ≡ [] = drop_all at xs over in
    let no_other : drop at ys ≡ [] = drop_all at ys (omega (arith, over, e)) in
    rw (none, no_other) refl

-- where a lane of octets is compared with one of others, the mask is 0 just where they and those behind them are the same
same_lane : (is_same : Bool) (mask : ℕ) (rest : Bool) → nat_eq mask 0 ≡ rest
    → nat_eq (cond (top 7 (cond (not is_same) 255 0)) 1 0 + 2 * mask) 0 ≡ (is_same && rest)
same_lane true zero rest e = e
same_lane true (suc mask) rest e =
    ne_eqb _ _ (λ (none : 0 + 2 * suc mask ≡ 0). omega (arith, none)) ∙ sym (ne_eqb _ _ (λ (none : suc mask ≡ 0). omega (arith, none))) ∙ e
same_lane false mask rest e = ne_eqb _ _ (λ (none : 1 + 2 * mask ≡ 0). omega (arith, none))

-- a lane in which two octets are compared
abbrev lane : ℕ → ℕ → ℕ
lane x y = cond (not (nat_eq x y)) 255 0

-- the lanes in which octets are not the same
abbrev other_lanes : List ℕ → List ℕ → List Bool
other_lanes xs ys = map (top 7) (zip2 lane xs ys)

same_lanes : (xs ys : List ℕ) → length xs ≡ length ys → nat_eq (mask_l (other_lanes xs ys)) 0 ≡ bytes_eq xs ys
same_lanes [] [] e = refl
same_lanes [] (y ∷ ys) e = absurd (omega (arith, e))
same_lanes (x ∷ xs) [] e = absurd (omega (arith, e))
same_lanes (x ∷ xs) (y ∷ ys) e = same_lane (nat_eq x y) (mask_l (other_lanes xs ys)) (bytes_eq xs ys) (same_lanes xs ys (omega (arith, e)))

-- the mask of the lanes in which two words are not the same is 0 just where the words are the same
pub same_masked : (xs ys : List ℕ) (at : ℕ) → at + 16 ≤ length xs → at + 16 ≤ length ys
    → nat_eq (mask_l (other_lanes (take 16 (drop at xs)) (take 16 (drop at ys))) % 2 ^ 64) 0 ≡ bytes_eq (take 16 (drop at xs)) (take 16 (drop at ys))
same_masked xs ys at within other_within =
    let word = take 16 (drop at xs) in
    let other = take 16 (drop at ys) in
    let long : length word ≡ 16 = length-chunk at 16 xs within in
    let other_long : length other ≡ 16 = length-chunk at 16 ys other_within in
    let lanes : length (other_lanes word other) ≡ 16 = length-map (zip2 lane word other) (top 7) ∙ length-zip2 lane word other (long ∙ sym other_long) ∙ long in
    let few : length (other_lanes word other) ≤ 64 = omega (arith, lanes) in
    ap (λ n. nat_eq n 0) (mask_l-mod (other_lanes word other) 64 few)
    ∙ same_lanes word other (long ∙ sym other_long)

-- behind words that are the same, octets are the same up to behind them where they are up to them
pub same_front : (xs ys : List ℕ) (at : ℕ) → take at xs ≡ take at ys → bytes_eq (take 16 (drop at xs)) (take 16 (drop at ys)) ≡ true
    → take (at + 16) xs ≡ take (at + 16) ys
same_front xs ys at front same =
    take-add at 16 xs
    ∙ ap (λ v. v ++ take 16 (drop at xs)) front
    ∙ ap (λ v. take at ys ++ v) (same_octets (take 16 (drop at xs)) (take 16 (drop at ys)) same)
    ∙ sym (take-add at 16 ys)

-- where two words are not the same, octets are not
pub other_word : (xs ys : List ℕ) (at : ℕ) → bytes_eq (take 16 (drop at xs)) (take 16 (drop at ys)) ≡ false → bytes_eq xs ys ≡ false
other_word xs ys at other =
    not_so (bytes_eq xs ys) (λ same. sym other ∙ (bytes_eq-Decides _ _).1 (ap (λ v. take 16 (drop at v)) (same_octets xs ys same)))

-- octets that are the same up to their last word, or to behind its begin, are the same where their last words are
pub same_end : (xs ys : List ℕ) (at last : ℕ) → last + 16 ≡ length xs → last ≤ at → length xs ≡ length ys → take at xs ≡ take at ys
    → bytes_eq (take 16 (drop last xs)) (take 16 (drop last ys)) ≡ bytes_eq xs ys
same_end xs ys at last end reached e front =
    let before : take last xs ≡ take last ys = sym (take-take last at xs reached) ∙ ap (take last) front ∙ take-take last at ys reached in
    let whole : take (last + 16) xs ≡ xs = take_all (last + 16) xs (omega (arith, end)) in
    let other_whole : take (last + 16) ys ≡ ys = take_all (last + 16) ys (omega (arith, end, e)) in
    one_answer _ _
    (λ same. sym whole ∙ same_front xs ys last before same ∙ other_whole, λ same. (bytes_eq-Decides _ _).1 (ap (λ v. take 16 (drop last v)) same))
    (bytes_eq-Decides xs ys)
