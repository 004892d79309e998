-- Octets that are read a piece at a time.
use Rattle.std.proofs.Common.{◌≡◌, ℕ, zero, suc, ◌+◌, ◌-◌, ◌≤◌, List, [], ◌∷◌, ◌++◌, length, take, drop, Option, Some, None, refl, sym, ap, subst, ◌∙◌, arith, length-take, length-drop, slice_range}
use Rattle.std.specs.Prelude.{IfSome}
use Rattle.std.specs.Option.{ForSome}
use Rattle.std.proofs.lemmas.Slice.{take-put_mid}
use borrow.Rule.Slice.PartMut.{put_mid}
use Rattle.ots_outside.specs.Disk.{DiskState}

take_nil : (n : ℕ) → take {A = ℕ} n [] ≡ []
take_nil zero = refl
take_nil (suc n) = refl

pub take_more : (reads : List ℕ) (a k : ℕ) → take a reads ++ take k (drop a reads) ≡ take (a + k) reads
take_more reads zero k = let e : k ≡ 0 + k = omega arith in ap (λ (n : ℕ). take n reads) e
take_more [] (suc a) k = take_nil k ∙ sym (take_nil (suc a + k))
take_more (x ∷ reads) (suc a) k =
    let e : suc (a + k) ≡ suc a + k = omega arith in
    ap (λ (l : List ℕ). x ∷ l) (take_more reads a k) ∙ ap (λ (n : ℕ). take n (x ∷ reads)) e

pub piece_read : (xs reads ys : List ℕ) (a n m : ℕ) → a ≤ n → n ≤ length xs → length xs ≡ length reads → take a xs ≡ take a reads → m ≡ length (take (n - a) (drop a xs)) → ys ≡ slice_range reads a (a + m)
    → take n (put_mid a (n - a) xs ys) ≡ take n reads
piece_read xs reads ys a n m le within same front m_is ys_is =
    let size : m ≡ n - a = omega (arith, length-take (n - a) (drop a xs), length-drop a xs) in
    let range : ys ≡ take (n - a) (drop a reads) = ys_is ∙ (let e : a + m - a ≡ n - a = omega arith in ap (λ (k : ℕ). take k (drop a reads)) e) in
    let long : n ≡ a + length ys = omega (arith, ap length range, length-take (n - a) (drop a reads), length-drop a reads) in
    let whole : a + (n - a) ≡ n = omega arith in
    take-put_mid a (n - a) xs ys n long (omega arith) ∙ ap (λ (l : List ℕ). l ++ ys) front ∙ ap (λ (l : List ℕ). take a reads ++ l) range ∙ take_more reads a (n - a) ∙ ap (λ (k : ℕ). take k reads) whole

pub some_step : (told now : Option DiskState) (A B C E : DiskState → Type 0) → now ≡ told → IfSome told A → ForSome told B → IfSome now C → ((s : DiskState) → A s → B s → C s → E s) → IfSome told E
some_step None now A B C E same a b d f = tt
some_step (Some s) now A B C E same a b d f = f s a (b s refl) (subst (λ (o : Option DiskState). IfSome o C) same d)
