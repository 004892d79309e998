-- What a sink has taken of a replay is safe.
use Rattle.std.proofs.Common.{◌≡◌, ◌≢◌, ℕ, zero, suc, ◌+◌, ◌-◌, ◌<◌, ◌≤◌, ◌⊎◌, inl, inr, List, [], ◌∷◌, ◌++◌, length, take, Option, Some, None, IfSome, refl, sym, ap, subst, ◌∙◌, append_assoc, arith}
use Rattle.std.specs.List.{AllByRecursion}
use Rattle.std.proofs.lemmas.List.{take-append-le}
use Rattle.std.proofs.lemmas.List.Elements.{All-from_recursion}
use Rattle.std.proofs.Math.Seq.{take-append-add}
use Rattle.ots_model.specs.LineLaws.{HasNoLineFeed}
use Rattle.nodes_world.specs.Told.{Told, spelled, text}
use Rattle.nodes_told.specs.Reading.{IsTold, PartsHaveNoFeed}
use Rattle.ots_program.specs.Answers.{IsPart, TakesFront, TakesSafely}
use Rattle.ots_program.specs.Laws.{WorldsAgree}
use Rattle.ots_program.specs.Replay.{replay}
use Rattle.ots_program.proofs.Agreed.{replay-right}
use Rattle.ots_program.proofs.Followed.{front_told}

-- a front of a text, as whole lines and a part of the next one
record IsCut (n : ℕ) (all : List Told) : Type 0 where
  lines : List Told
  others : List Told
  part : List ℕ
  split : all ≡ lines ++ others
  of_next : IsPart part others
  front : take n (text all) ≡ text lines ++ part

take-over : (n : ℕ) (xs ys : List ℕ) → length xs ≤ n → take n (xs ++ ys) ≡ xs ++ take (n - length xs) ys
take-over n xs ys h =
    let e : n ≡ length xs + (n - length xs) = omega arith in
    ap (λ k. take k (xs ++ ys)) e ∙ take-append-add xs ys (n - length xs)

take-none : (n : ℕ) → take n (text []) ≡ []
take-none zero = refl
take-none (suc n) = refl

IsCut-over : (n : ℕ) (line : Told) (all : List Told) → length (spelled line) ≤ n → IsCut (n - length (spelled line)) all → IsCut n (line ∷ all)
IsCut-over n line all h k = record {
  lines = line ∷ k.lines;
  others = k.others;
  part = k.part;
  split = ap (λ some. line ∷ some) k.split;
  of_next = k.of_next;
  front = take-over n (spelled line) (text all) h ∙ rw (k.front, append_assoc) refl;
}

IsCut-within : (n : ℕ) (line : Told) (all : List Told) → n < length (spelled line) → IsCut n (line ∷ all)
IsCut-within n line all h = record {
  lines = [];
  others = line ∷ all;
  part = take n (spelled line);
  split = refl;
  of_next = (n, h, refl);
  front = take-append-le n (spelled line) (text all) (omega arith);
}

low_or_high : (n m : ℕ) → (n < m) ⊎ (m ≤ n)
low_or_high n m = grind arith

cut : (n : ℕ) (all : List Told) → IsCut n all
cut n [] = record { lines = []; others = []; part = []; split = refl; of_next = refl; front = take-none n }
cut n (line ∷ all) = elim (low_or_high n (length (spelled line))) [
  | inl h ↦ IsCut-within n line all h
  | inr h ↦ IsCut-over n line all h (cut (n - length (spelled line)) all)
]

-- what holds of each of some lines holds of each of the last of them
others_told : (some others : List Told) → AllByRecursion IsTold (some ++ others) → AllByRecursion IsTold others
others_told [] others is = is
others_told (line ∷ some) others is = others_told some others is.1

-- a part of the next line has no line feed
part_on_one_line : PartsHaveNoFeed → (part : List ℕ) (others : List Told) → AllByRecursion IsTold others → IsPart part others → HasNoLineFeed part
part_on_one_line law part [] is of_next = subst (λ (octets : List ℕ). HasNoLineFeed octets) (sym of_next) (All-from_recursion (λ b. b ≢ 10) [] tt)
part_on_one_line law part (line ∷ others) is (n, low, same) = subst (λ (octets : List ℕ). HasNoLineFeed octets) (sym same) (law line n is.0 low)

-- a front of the text of what a replay tells
TakesSafely-front : WorldsAgree → (octets before : List ℕ) (after : Option (List ℕ)) → TakesFront ((replay octets).lines ++ (replay octets).further) before after → TakesSafely octets before after
TakesSafely-front law octets before after h =
    let all = (replay octets).lines ++ (replay octets).further in
    let k = cut h.0 all in
    let safe = (replay-right law octets).safe in
    let told : AllByRecursion IsTold (k.lines ++ k.others) = subst (λ (some : List Told). AllByRecursion IsTold some) k.split (replay-right law octets).read in
    record {
      lines = k.lines;
      others = k.others;
      of_replay = k.split;
      part = k.part;
      of_next = k.of_next;
      taken = rw (h.1, k.front) refl;
      safe = law.lines.fronts k.lines k.others (rw k.split at safe);
      told = front_told k.lines k.others told;
      one_line = part_on_one_line law.parts k.part k.others (others_told k.lines k.others told) k.of_next;
    }

-- what was taken is safe
pub IfSome-safely : WorldsAgree → (octets : List ℕ) (before after : Option (List ℕ)) → IfSome before (λ taken. TakesFront ((replay octets).lines ++ (replay octets).further) taken after) → IfSome before (λ taken. TakesSafely octets taken after)
IfSome-safely law octets None after h = tt
IfSome-safely law octets (Some taken) after h = TakesSafely-front law octets taken after h
