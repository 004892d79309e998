-- Bodies that are written of values, one after another.
use Rattle.std.proofs.Common.{◌≡◌, ℕ, ◌+◌, ◌<◌, ◌≤◌, ◌⊎◌, Bool, true, false, ltb, cond, Some, None, Err, List, [], ◌∷◌, ◌++◌, length, get_or, drop, replicate, refl, sym, subst, inl, inr, ◌∙◌, arith, length-append}
use Rattle.std.proofs.lemmas.Bool.{ltb-false}
use Rattle.std.proofs.lemmas.List.{drop_more}
use Rattle.cdr_values.specs.Again.{AllFit}
use Rattle.cdr_values.specs.declared.fault.CdrFault.{CdrFault}
use Rattle.cdr_values.specs.declared.fault.CdrFault.TheVariants as cdr
use Rattle.cdr_values.specs.Value.{Fits, Text, canonical, gap, has_nul, octets_of}
use Rattle.cdr_values.specs.Values.{with_values}
use Rattle.cdr_values.specs.Writing.{Writing, place_of, refusal, with_value}
use Rattle.ots_calls.specs.Fault.{Fails, fault_of}
use Rattle.ots_calls.specs.Writing.{blank, octets_with}
use Rattle.ots_calls.specs.WritingInside.{ArePieces, IsPiece, value_of, values_of}
use Rattle.ots_calls.specs.declared.body.Piece.{Piece}
use Rattle.ots_calls.specs.declared.body.Piece.TheVariants as pieces
use Rattle.ots_calls.specs.declared.fault.CallFault.{CallFault}
use Rattle.ots_calls.specs.declared.fault.CallFault.TheVariants as faults

passed : (b : Bool) (x y : CdrFault) (rest : Bool) → cond b (Some x) (cond rest (Some y) None) ≡ None → (b ≡ false) × (rest ≡ false)
passed true x y rest e = absurd cc
passed false x y true e = absurd cc
passed false x y false e = (refl, refl)

-- a text among few octets is short
few_within : (front padding count text : List ℕ) → length (front ++ (padding ++ ((count ++ text) ++ 0 ∷ []))) ≤ 65536 → length text < 65536
few_within front padding count text few =
    omega (arith, few, length-append front (padding ++ ((count ++ text) ++ 0 ∷ [])), length-append padding ((count ++ text) ++ 0 ∷ []), length-append (count ++ text) (0 ∷ []), length-append count text)

-- a text that isn't refused fits
text_fits : (w : Writing) (text : List ℕ) → refusal w (Text text) ≡ None → Fits (Text text)
text_fits w text e =
    let place = place_of w in
    let all = canonical w.order place (Text text) in
    let h = passed (has_nul text) (cdr.BadString place) (cdr.TooLong place (length (w.octets ++ all))) (ltb 65536 (length (w.octets ++ all))) e in
    let few : length (w.octets ++ all) ≤ 65536 = ltb-false _ _ h.1 in
    (few_within w.octets (replicate (gap 4 place) 0) (octets_of w.order 4 (length text + 1)) text few, h.0)

piece_fits : (w : Writing) (piece : Piece) → refusal w (value_of piece) ≡ None → IsPiece piece → Fits (value_of piece)
piece_fits w (pieces.Flag flag) e h = tt
piece_fits w (pieces.Number number) e h = h
piece_fits w (pieces.Long number) e h = h
piece_fits w (pieces.Text text) e h = text_fits w text.now e

-- a writer with these pieces still to come will have written all of them
pub record IsWriting (all : List Piece) (rest : List Piece) (w : Writing) : Type 0 where
  pub so_far : with_values w (values_of rest) ≡ with_values blank (values_of all)
  pub goes_on : octets_with w (values_of rest) ≡ octets_with blank (values_of all)
  pub fit : AllFit (values_of rest) → AllFit (values_of all)
  pub are : ArePieces rest

pub begins : (all : List Piece) → ArePieces all → IsWriting all all blank
begins all h = record { so_far = refl; goes_on = refl; fit = λ f. f; are = h }

pub writes : (all rest : List Piece) (piece : Piece) (w : Writing) → IsWriting all (piece ∷ rest) w → refusal w (value_of piece) ≡ None → IsWriting all rest (with_value w (value_of piece))
writes all rest piece w h none =
    let step : octets_with w (value_of piece ∷ values_of rest) ≡ octets_with (with_value w (value_of piece)) (values_of rest) = rw none refl in
    record {
      so_far = h.so_far;
      goes_on = sym step ∙ h.goes_on;
      fit = λ f. h.fit (piece_fits w piece none h.are.0, f);
      are = h.are.1;
    }

fails : (fault : CallFault) → Fails {Y = List ℕ} fault (Err fault)
fails faults.BadOperation = refl
fails (faults.Marshal place) = refl
fails faults.BadParam = refl
fails (faults.Garbled place) = refl
fails faults.BadTarget = refl
fails faults.BadKey = refl
fails faults.Memory = tt

pub writes_next : (all : List Piece) (i : ℕ) (d : Piece) (w : Writing) → IsWriting all (drop i all) w → i < length all → refusal w (value_of (get_or all i d)) ≡ None → IsWriting all (drop (i + 1) all) (with_value w (value_of (get_or all i d)))
writes_next all i d w h within none = writes all (drop (i + 1) all) (get_or all i d) w (subst (λ (rest : List Piece). IsWriting all rest w) (drop_more all i d within) h) none

-- a piece that is refused is why there is no body
pub refused : (all rest : List Piece) (piece : Piece) (w : Writing) (fault : CdrFault) → IsWriting all (piece ∷ rest) w → (fault ≡ cdr.Memory) ⊎ (refusal w (value_of piece) ≡ Some fault) → Fails (fault_of fault) (octets_with blank (values_of all))
refused all rest piece w fault h (inl memory) = subst (λ (f : CdrFault). Fails (fault_of f) (octets_with blank (values_of all))) (sym memory) tt
refused all rest piece w fault h (inr some) =
    let step : octets_with w (value_of piece ∷ values_of rest) ≡ Err (fault_of fault) = rw some refl in
    subst (Fails (fault_of fault)) (sym step ∙ h.goes_on) (fails (fault_of fault))
