-- A payload is the record that it was written of, and it is no payload of another.
use Rattle.std.proofs.Common.{◌≡◌, ℕ, ◌^◌, ◌<◌, ◌≤◌, Bool, true, false, cond, eqb, ltb, List, [], ◌∷◌, ◌++◌, length, take, drop, Option, Some, None, refl, sym, ap, subst, ◌∙◌, append_assoc, arith, inl, inr}
use Rattle.std.specs.Prelude.{IsTrue, ◌==◌, ◌⊎◌, if◌then◌else◌}
use Rattle.std.specs.List.{concat}
use Rattle.std.proofs.lemmas.Bool.{ltb-false, le-ltb, eqb-true}
use Rattle.std.proofs.lemmas.List.{append-nil, take_at, drop_at, take-append-drop, length-append, length-take, nil_from_length}
use Rattle.ots_model.specs.Limits.{reference_limit}
use Rattle.ots_model.specs.declared.service.RetryKey.{RetryKey}
use Rattle.decision_journal.specs.declared.record.Registration.{Registration}
use Rattle.decision_journal.specs.declared.record.Put.{Put}
use Rattle.decision_journal.specs.declared.record.CellsEnd.{CellsEnd}
use Rattle.decision_journal.specs.declared.record.CellsEnd.TheVariants.{Applied, Undone, ChoseCommit, ChoseRollback, Forgotten}
use Rattle.decision_journal.specs.declared.record.JournalRecord.{JournalRecord}
use Rattle.decision_journal.specs.declared.record.JournalRecord.TheVariants.{Life, Decision, Done, Prepared, CellsPrepared, CellsOutcome, CellsOnePhase}
use Rattle.decision_journal.specs.Layout.{one, two, four, eight, reference, registration, registrations, put, puts, key, flag, end_number, kind, fields, payload, is_rising, Fits, Fits32, Fits64, FitsReference, FitsRegistration, FitsRegistrations, FitsPut, FitsPuts, FitsKey}
use Rattle.decision_journal.specs.Reading.{◌>>=◌, number_at, kept_octets, both_at, make_registration, make_put, make_puts, make_flag, make_key, make_end, none_at, reference_at, registration_at, registrations_at, put_at, puts_at, flag_at, key_at, end_at, life_at, decision_at, done_at, prepared_at, cells_prepared_at, cells_outcome_at, one_phase_at, fields_at, record_in}
use Rattle.decision_journal.proofs.Codecs.{IsOctets, IsOctets-drop, bind_some, guard_some, some_is, Taken, Taken-then, IsCodec, two_codec, four_codec, eight_codec, one_codec, none_codec, both_codec, made_codec, built_again, built_takes, counted_codec}

abbrev done : {A : Type 0} → A → Option A
done x = Some x

-- ---- fields

reference_again : (text rest : List ℕ) → FitsReference text → reference_at (reference text ++ rest) ≡ Some (text, rest)
unfolding reference_at
reference_again text rest fits =
    let short : ltb reference_limit (length text) ≡ false = le-ltb _ _ fits in
    let long : ltb (length (text ++ rest)) (length text) ≡ false = le-ltb _ _ (omega (arith, length-append text rest)) in
    ap reference_at (append_assoc (two (length text)) text rest) ∙ rw (two_codec.again (length text) (text ++ rest) (omega (arith, fits)), short, long, take_at text rest (length text) refl, drop_at text rest (length text) refl) refl

reference_takes : (octets text rest : List ℕ) → IsOctets octets → reference_at octets ≡ Some (text, rest) → Taken octets (reference text) rest × FitsReference text
unfolding reference_at
reference_takes octets text rest h e =
    let b = bind_some (number_at 2 octets) (λ n. cond (ltb reference_limit n.0) None (kept_octets n.0 n.1)) (text, rest) e in
    let n = b.0 in
    let t = two_codec.takes octets n.0 n.1 h b.1 in
    let g = guard_some (ltb reference_limit n.0) (kept_octets n.0 n.1) (text, rest) b.2 in
    let k = guard_some (ltb (length n.1) n.0) (Some (take n.0 n.1, drop n.0 n.1)) (text, rest) g.1 in
    let long : n.0 ≤ length n.1 = ltb-false _ _ k.0 in
    let short : n.0 ≤ reference_limit = ltb-false _ _ g.0 in
    let len : length (take n.0 n.1) ≡ n.0 = omega (arith, length-take n.0 n.1) in
    let second : Taken n.1 (take n.0 n.1) (drop n.0 n.1) = record { parts = sym (take-append-drop n.0 n.1); rest_fits = IsOctets-drop n.0 n.1 t.0.rest_fits } in
    let both = Taken-then octets (two n.0) n.1 (take n.0 n.1) (drop n.0 n.1) t.0 second in
    let whole : Taken octets (reference (take n.0 n.1)) (drop n.0 n.1) = subst (λ (k : ℕ). Taken octets (two k ++ take n.0 n.1) (drop n.0 n.1)) (sym len) both in
    subst (λ (p : List ℕ × List ℕ). Taken octets (reference p.0) p.1 × FitsReference p.0) (some_is (take n.0 n.1, drop n.0 n.1) (text, rest) k.1) (whole, omega (arith, len, short))

reference_codec : IsCodec reference reference_at FitsReference
reference_codec = record { again = reference_again; takes = reference_takes }

registration_codec : IsCodec registration registration_at FitsRegistration
unfolding registration_at
registration_codec = made_codec make_registration (λ r. (r.index, r.reference)) FitsRegistration (both_codec four_codec reference_codec) (record {
  forth = λ y fits. (refl, fits);
  back = λ x y fits e. let is = some_is (record { index = x.0; reference = x.1 }) y e in (ap (λ (r : Registration). (r.index, r.reference)) (sym is), subst FitsRegistration is fits);
})

registrations_codec : IsCodec registrations registrations_at FitsRegistrations
unfolding registrations_at
registrations_codec = counted_codec registration_codec

put_codec : IsCodec put put_at FitsPut
unfolding put_at
put_codec = made_codec make_put (λ p. (p.cell, p.value)) FitsPut (both_codec eight_codec eight_codec) (record {
  forth = λ y fits. (refl, fits);
  back = λ x y fits e. let is = some_is (record { cell = x.0; value = x.1 }) y e in (ap (λ (p : Put). (p.cell, p.value)) (sym is), subst FitsPut is fits);
})

rising_made : (ps qs : List Put) → make_puts ps ≡ Some qs → (is_rising ps ≡ true) × (ps ≡ qs)
rising_made ps qs e = by_test (is_rising ps) refl e
  where
    by_test : (b : Bool) → is_rising ps ≡ b → cond b (Some ps) None ≡ Some qs → (is_rising ps ≡ true) × (ps ≡ qs)
    by_test true is e = (is, some_is ps qs e)
    by_test false is e = absurd cc

is_true : (b : Bool) → IsTrue b → b ≡ true
is_true b h = h

true_is : (b : Bool) → b ≡ true → IsTrue b
true_is b h = h

puts_codec : IsCodec puts puts_at FitsPuts
unfolding puts_at
puts_codec = made_codec make_puts (λ ps. ps) FitsPuts (counted_codec put_codec) (record {
  forth = λ ps fits. (rw (is_true (is_rising ps) fits.2) refl, (fits.0, fits.1));
  back = λ ps qs fits e. let h = rising_made ps qs e in (sym h.1, subst FitsPuts h.1 (fits.0, fits.1, true_is (is_rising ps) h.0));
})

flag_forth : (b : Bool) → (make_flag (flag b) ≡ Some b) × (flag b < 256)
flag_forth true = (refl, omega arith)
flag_forth false = (refl, omega arith)

-- a choice by a number
pick : {A : Type 0} (n k : ℕ) (x y : Option A) (z : A) → cond (eqb n k) x y ≡ Some z → ((n ≡ k) × (x ≡ Some z)) ⊎ (y ≡ Some z)
pick {A} n k x y z e = by_test (eqb n k) refl e
  where
    by_test : (b : Bool) → eqb n k ≡ b → cond b x y ≡ Some z → ((n ≡ k) × (x ≡ Some z)) ⊎ (y ≡ Some z)
    by_test true is e = inl (eqb-true _ _ is, e)
    by_test false is e = inr e

flag_back : (n : ℕ) (b : Bool) → make_flag n ≡ Some b → flag b ≡ n
flag_back n b e =
    elim (pick n 0 (Some false) (if n == 1 then Some true else None) b e) [
      | inl h ↦ ap flag (sym (some_is false b h.1)) ∙ sym h.0
      | inr e ↦ elim (pick n 1 (Some true) None b e) [ inl h ↦ ap flag (sym (some_is true b h.1)) ∙ sym h.0 | inr e ↦ absurd cc ]
    ]

flag_codec : IsCodec (λ b. one (flag b)) flag_at (λ _. Unit {0})
unfolding flag_at
flag_codec = made_codec make_flag flag (λ _. Unit {0}) one_codec (record { forth = λ b fits. flag_forth b; back = λ n b fits e. (flag_back n b e, tt) })

end_forth : (end : CellsEnd) → (make_end (end_number end) ≡ Some end) × (end_number end < 256)
end_forth Applied = (refl, omega arith)
end_forth Undone = (refl, omega arith)
end_forth ChoseCommit = (refl, omega arith)
end_forth ChoseRollback = (refl, omega arith)
end_forth Forgotten = (refl, omega arith)

end_is : (n k : ℕ) (a end : CellsEnd) → n ≡ k → end_number a ≡ k → done a ≡ Some end → end_number end ≡ n
end_is n k a end same number e = ap end_number (sym (some_is a end e)) ∙ number ∙ sym same

end_back : (n : ℕ) (end : CellsEnd) → make_end n ≡ Some end → end_number end ≡ n
end_back n end e =
    elim (pick n 1 (Some Applied) _ end e) [
      | inl h ↦ end_is n 1 Applied end h.0 refl h.1
      | inr e ↦ elim (pick n 2 (Some Undone) _ end e) [
        | inl h ↦ end_is n 2 Undone end h.0 refl h.1
        | inr e ↦ elim (pick n 3 (Some ChoseCommit) _ end e) [
          | inl h ↦ end_is n 3 ChoseCommit end h.0 refl h.1
          | inr e ↦ elim (pick n 4 (Some ChoseRollback) _ end e) [
            | inl h ↦ end_is n 4 ChoseRollback end h.0 refl h.1
            | inr e ↦ elim (pick n 5 (Some Forgotten) None end e) [ inl h ↦ end_is n 5 Forgotten end h.0 refl h.1 | inr e ↦ absurd cc ]
          ]
        ]
      ]
    ]

end_codec : IsCodec (λ end. one (end_number end)) end_at (λ _. Unit {0})
unfolding end_at
end_codec = made_codec make_end end_number (λ _. Unit {0}) one_codec (record { forth = λ end fits. end_forth end; back = λ n end fits e. (end_back n end e, tt) })

key_numbers : Option RetryKey → ℕ × (ℕ × ℕ)
key_numbers None = (0, (0, 0))
key_numbers (Some k) = (1, (k.client, k.number))

key_forth : (k : Option RetryKey) → FitsKey k → (make_key (key_numbers k) ≡ Some k) × ((key_numbers k).0 < 256) × ((key_numbers k).1.0 < 2 ^ 64) × ((key_numbers k).1.1 < 2 ^ 64)
unfolding key_numbers
key_forth None fits = (refl, omega arith, omega arith, omega arith)
key_forth (Some k) fits = (refl, omega arith, fits.0, fits.1)

key_back : (f client number : ℕ) (k : Option RetryKey) → client < 2 ^ 64 → number < 2 ^ 64 → make_key (f, (client, number)) ≡ Some k → (key_numbers k ≡ (f, (client, number))) × FitsKey k
unfolding key_numbers
key_back f client number k c n e =
    elim (pick f 1 (Some (Some (record { client = client; number = number }))) _ k e) [
      | inl h ↦
          let is = some_is (Some (record { client = client; number = number })) k h.1 in
          subst (λ (k : Option RetryKey). (key_numbers k ≡ (f, (client, number))) × FitsKey k) is (ap (λ (f : ℕ). (f, (client, number))) (sym h.0), (c, n))
      | inr e ↦ elim (pick f 0 _ None k e) [
        | inl h ↦ elim (pick client 0 _ None k h.1) [
          | inl i ↦ elim (pick number 0 (Some None) None k i.1) [
            | inl j ↦
                let is = some_is None k j.1 in
                subst (λ (k : Option RetryKey). (key_numbers k ≡ (f, (client, number))) × FitsKey k) is (sym (rw (h.0, i.0, j.0) refl), tt)
            | inr e ↦ absurd cc
          ]
          | inr e ↦ absurd cc
        ]
        | inr e ↦ absurd cc
      ]
    ]

key_spelled : (k : Option RetryKey) → key k ≡ one (key_numbers k).0 ++ (eight (key_numbers k).1.0 ++ eight (key_numbers k).1.1)
unfolding key_numbers
key_spelled None = refl
key_spelled (Some k) = refl

key_codec : IsCodec key key_at FitsKey
unfolding key_at
key_codec =
    let made = made_codec make_key key_numbers FitsKey (both_codec one_codec (both_codec eight_codec eight_codec)) (record {
      forth = λ k fits. let f = key_forth k fits in (f.0, (f.1, (f.2, f.3)));
      back = λ x k fits e. key_back x.0 x.1.0 x.1.1 k fits.1.0 fits.1.1 e;
    }) in
    record {
      again = λ k rest fits. rw (key_spelled k) (made.again k rest fits);
      takes = λ octets k rest h e. rw (key_spelled k) (made.takes octets k rest h e);
    }

-- ---- kinds

life_codec : IsCodec (λ (x : ℕ × Unit {0}). four x.0 ++ []) (both_at (number_at 4) none_at) (λ x. Fits32 x.0 × Unit {0})
life_codec = both_codec four_codec none_codec

decision_codec : IsCodec (λ (x : ℕ × (ℕ × (ℕ × (Option RetryKey × (Bool × (List Registration × Unit {0})))))). four x.0 ++ (four x.1.0 ++ (eight x.1.1.0 ++ (key x.1.1.1.0 ++ (one (flag x.1.1.1.1.0) ++ (registrations x.1.1.1.1.1.0 ++ []))))))
    (both_at (number_at 4) (both_at (number_at 4) (both_at (number_at 8) (both_at key_at (both_at flag_at (both_at registrations_at none_at))))))
    (λ x. Fits32 x.0 × (Fits32 x.1.0 × (Fits64 x.1.1.0 × (FitsKey x.1.1.1.0 × (Unit {0} × (FitsRegistrations x.1.1.1.1.1.0 × Unit {0}))))))
decision_codec = both_codec four_codec (both_codec four_codec (both_codec eight_codec (both_codec key_codec (both_codec flag_codec (both_codec registrations_codec none_codec)))))

prepared_codec : IsCodec (λ (x : ℕ × (ℕ × (ℕ × (List ℕ × (List Registration × Unit {0}))))). four x.0 ++ (four x.1.0 ++ (eight x.1.1.0 ++ (reference x.1.1.1.0 ++ (registrations x.1.1.1.1.0 ++ [])))))
    (both_at (number_at 4) (both_at (number_at 4) (both_at (number_at 8) (both_at reference_at (both_at registrations_at none_at)))))
    (λ x. Fits32 x.0 × (Fits32 x.1.0 × (Fits64 x.1.1.0 × (FitsReference x.1.1.1.0 × (FitsRegistrations x.1.1.1.1.0 × Unit {0})))))
prepared_codec = both_codec four_codec (both_codec four_codec (both_codec eight_codec (both_codec reference_codec (both_codec registrations_codec none_codec))))

cells_prepared_codec : IsCodec (λ (x : ℕ × (ℕ × (List ℕ × (List Put × Unit {0})))). four x.0 ++ (eight x.1.0 ++ (reference x.1.1.0 ++ (puts x.1.1.1.0 ++ []))))
    (both_at (number_at 4) (both_at (number_at 8) (both_at reference_at (both_at puts_at none_at))))
    (λ x. Fits32 x.0 × (Fits64 x.1.0 × (FitsReference x.1.1.0 × (FitsPuts x.1.1.1.0 × Unit {0}))))
cells_prepared_codec = both_codec four_codec (both_codec eight_codec (both_codec reference_codec (both_codec puts_codec none_codec)))

cells_outcome_codec : IsCodec (λ (x : ℕ × (CellsEnd × Unit {0})). four x.0 ++ (one (end_number x.1.0) ++ []))
    (both_at (number_at 4) (both_at end_at none_at)) (λ x. Fits32 x.0 × (Unit {0} × Unit {0}))
cells_outcome_codec = both_codec four_codec (both_codec end_codec none_codec)

one_phase_codec : IsCodec (λ (x : ℕ × (ℕ × (List Put × Unit {0}))). four x.0 ++ (eight x.1.0 ++ (puts x.1.1.0 ++ [])))
    (both_at (number_at 4) (both_at (number_at 8) (both_at puts_at none_at))) (λ x. Fits32 x.0 × (Fits64 x.1.0 × (FitsPuts x.1.1.0 × Unit {0})))
one_phase_codec = both_codec four_codec (both_codec eight_codec (both_codec puts_codec none_codec))

fields_again : (r : JournalRecord) (rest : List ℕ) → Fits r → fields_at (kind r) (concat (fields r) ++ rest) ≡ Some (r, rest)
unfolding fields_at life_at decision_at done_at prepared_at cells_prepared_at cells_outcome_at one_phase_at
fields_again (Life life) rest fits = built_again (λ (x : ℕ × Unit {0}). Life x.0) life_codec (life, tt) rest (fits, tt)
fields_again (Decision life slot generation k asked rs) rest fits =
    built_again (λ (x : ℕ × (ℕ × (ℕ × (Option RetryKey × (Bool × (List Registration × Unit {0})))))). Decision x.0 x.1.0 x.1.1.0 x.1.1.1.0 x.1.1.1.1.0 x.1.1.1.1.1.0) decision_codec
    (life, (slot, (generation, (k, (asked, (rs, tt)))))) rest (fits.0, (fits.1, (fits.2, (fits.3, (tt, (fits.4, tt))))))
fields_again (Done place) rest fits = built_again (λ (x : ℕ × Unit {0}). Done x.0) life_codec (place, tt) rest (fits, tt)
fields_again (Prepared life slot generation recovery rs) rest fits =
    built_again (λ (x : ℕ × (ℕ × (ℕ × (List ℕ × (List Registration × Unit {0}))))). Prepared x.0 x.1.0 x.1.1.0 x.1.1.1.0 x.1.1.1.1.0) prepared_codec
    (life, (slot, (generation, (recovery, (rs, tt))))) rest (fits.0, (fits.1, (fits.2, (fits.3, (fits.4, tt)))))
fields_again (CellsPrepared life number recovery ps) rest fits =
    built_again (λ (x : ℕ × (ℕ × (List ℕ × (List Put × Unit {0})))). CellsPrepared x.0 x.1.0 x.1.1.0 x.1.1.1.0) cells_prepared_codec
    (life, (number, (recovery, (ps, tt)))) rest (fits.0, (fits.1, (fits.2, (fits.3, tt))))
fields_again (CellsOutcome place end) rest fits =
    built_again (λ (x : ℕ × (CellsEnd × Unit {0})). CellsOutcome x.0 x.1.0) cells_outcome_codec (place, (end, tt)) rest (fits, (tt, tt))
fields_again (CellsOnePhase life number ps) rest fits =
    built_again (λ (x : ℕ × (ℕ × (List Put × Unit {0}))). CellsOnePhase x.0 x.1.0 x.1.1.0) one_phase_codec (life, (number, (ps, tt))) rest (fits.0, (fits.1, (fits.2, tt)))

-- the fields of a record of this kind stand at the front
pub record StandsIn (k : ℕ) (octets rest : List ℕ) (r : JournalRecord) : Type 0 where
  pub kind_is : kind r ≡ k
  pub taken : Taken octets (concat (fields r)) rest
  pub fits : Fits r

life_takes : (octets : List ℕ) (r : JournalRecord) (rest : List ℕ) → IsOctets octets → life_at octets ≡ Some (r, rest) → StandsIn 1 octets rest r
unfolding life_at
life_takes octets r rest h e =
    let b = built_takes (λ (x : ℕ × Unit {0}). Life x.0) life_codec octets r rest h e in
    subst (StandsIn 1 octets rest) b.1 (record { kind_is = refl; taken = b.2; fits = b.3.0 })

decision_takes : (octets : List ℕ) (r : JournalRecord) (rest : List ℕ) → IsOctets octets → decision_at octets ≡ Some (r, rest) → StandsIn 2 octets rest r
unfolding decision_at
decision_takes octets r rest h e =
    let b = built_takes (λ (x : ℕ × (ℕ × (ℕ × (Option RetryKey × (Bool × (List Registration × Unit {0})))))). Decision x.0 x.1.0 x.1.1.0 x.1.1.1.0 x.1.1.1.1.0 x.1.1.1.1.1.0) decision_codec octets r rest h e in
    let f = b.3 in
    subst (StandsIn 2 octets rest) b.1 (record { kind_is = refl; taken = b.2; fits = (f.0, f.1.0, f.1.1.0, f.1.1.1.0, f.1.1.1.1.1.0) })

done_takes : (octets : List ℕ) (r : JournalRecord) (rest : List ℕ) → IsOctets octets → done_at octets ≡ Some (r, rest) → StandsIn 3 octets rest r
unfolding done_at
done_takes octets r rest h e =
    let b = built_takes (λ (x : ℕ × Unit {0}). Done x.0) life_codec octets r rest h e in
    subst (StandsIn 3 octets rest) b.1 (record { kind_is = refl; taken = b.2; fits = b.3.0 })

prepared_takes : (octets : List ℕ) (r : JournalRecord) (rest : List ℕ) → IsOctets octets → prepared_at octets ≡ Some (r, rest) → StandsIn 4 octets rest r
unfolding prepared_at
prepared_takes octets r rest h e =
    let b = built_takes (λ (x : ℕ × (ℕ × (ℕ × (List ℕ × (List Registration × Unit {0}))))). Prepared x.0 x.1.0 x.1.1.0 x.1.1.1.0 x.1.1.1.1.0) prepared_codec octets r rest h e in
    let f = b.3 in
    subst (StandsIn 4 octets rest) b.1 (record { kind_is = refl; taken = b.2; fits = (f.0, f.1.0, f.1.1.0, f.1.1.1.0, f.1.1.1.1.0) })

cells_prepared_takes : (octets : List ℕ) (r : JournalRecord) (rest : List ℕ) → IsOctets octets → cells_prepared_at octets ≡ Some (r, rest) → StandsIn 5 octets rest r
unfolding cells_prepared_at
cells_prepared_takes octets r rest h e =
    let b = built_takes (λ (x : ℕ × (ℕ × (List ℕ × (List Put × Unit {0})))). CellsPrepared x.0 x.1.0 x.1.1.0 x.1.1.1.0) cells_prepared_codec octets r rest h e in
    let f = b.3 in
    subst (StandsIn 5 octets rest) b.1 (record { kind_is = refl; taken = b.2; fits = (f.0, f.1.0, f.1.1.0, f.1.1.1.0) })

cells_outcome_takes : (octets : List ℕ) (r : JournalRecord) (rest : List ℕ) → IsOctets octets → cells_outcome_at octets ≡ Some (r, rest) → StandsIn 6 octets rest r
unfolding cells_outcome_at
cells_outcome_takes octets r rest h e =
    let b = built_takes (λ (x : ℕ × (CellsEnd × Unit {0})). CellsOutcome x.0 x.1.0) cells_outcome_codec octets r rest h e in
    subst (StandsIn 6 octets rest) b.1 (record { kind_is = refl; taken = b.2; fits = b.3.0 })

one_phase_takes : (octets : List ℕ) (r : JournalRecord) (rest : List ℕ) → IsOctets octets → one_phase_at octets ≡ Some (r, rest) → StandsIn 7 octets rest r
unfolding one_phase_at
one_phase_takes octets r rest h e =
    let b = built_takes (λ (x : ℕ × (ℕ × (List Put × Unit {0}))). CellsOnePhase x.0 x.1.0 x.1.1.0) one_phase_codec octets r rest h e in
    let f = b.3 in
    subst (StandsIn 7 octets rest) b.1 (record { kind_is = refl; taken = b.2; fits = (f.0, f.1.0, f.1.1.0) })

fields_take : (k : ℕ) (octets : List ℕ) (r : JournalRecord) (rest : List ℕ) → IsOctets octets → fields_at k octets ≡ Some (r, rest) → StandsIn k octets rest r
unfolding fields_at
fields_take k octets r rest h e =
    let as_kind = λ (n : ℕ) (same : k ≡ n) (s : StandsIn n octets rest r). subst (λ (n : ℕ). StandsIn n octets rest r) (sym same) s in
    elim (pick k 1 (life_at octets) _ (r, rest) e) [
      | inl p ↦ as_kind 1 p.0 (life_takes octets r rest h p.1)
      | inr e ↦ elim (pick k 2 (decision_at octets) _ (r, rest) e) [
        | inl p ↦ as_kind 2 p.0 (decision_takes octets r rest h p.1)
        | inr e ↦ elim (pick k 3 (done_at octets) _ (r, rest) e) [
          | inl p ↦ as_kind 3 p.0 (done_takes octets r rest h p.1)
          | inr e ↦ elim (pick k 4 (prepared_at octets) _ (r, rest) e) [
            | inl p ↦ as_kind 4 p.0 (prepared_takes octets r rest h p.1)
            | inr e ↦ elim (pick k 5 (cells_prepared_at octets) _ (r, rest) e) [
              | inl p ↦ as_kind 5 p.0 (cells_prepared_takes octets r rest h p.1)
              | inr e ↦ elim (pick k 6 (cells_outcome_at octets) _ (r, rest) e) [
                | inl p ↦ as_kind 6 p.0 (cells_outcome_takes octets r rest h p.1)
                | inr e ↦ elim (pick k 7 (one_phase_at octets) None (r, rest) e) [
                  | inl p ↦ as_kind 7 p.0 (one_phase_takes octets r rest h p.1)
                  | inr e ↦ absurd cc
                ]
              ]
            ]
          ]
        ]
      ]
    ]

kind_fits : (r : JournalRecord) → kind r < 256
kind_fits (Life life) = omega arith
kind_fits (Decision life slot generation k asked rs) = omega arith
kind_fits (Done place) = omega arith
kind_fits (Prepared life slot generation recovery rs) = omega arith
kind_fits (CellsPrepared life number recovery ps) = omega arith
kind_fits (CellsOutcome place end) = omega arith
kind_fits (CellsOnePhase life number ps) = omega arith

pub record_again : (r : JournalRecord) → Fits r → record_in (payload r) ≡ Some r
unfolding record_in
record_again r fits =
    let read : fields_at (kind r) (concat (fields r)) ≡ Some (r, []) = ap (fields_at (kind r)) (sym (append-nil (concat (fields r)))) ∙ fields_again r [] fits in
    rw (one_codec.again (kind r) (concat (fields r)) (kind_fits r), read) refl

pub record_takes : (octets : List ℕ) (r : JournalRecord) → IsOctets octets → record_in octets ≡ Some r → (octets ≡ payload r) × Fits r
unfolding record_in
record_takes octets r h e =
    let k = bind_some (number_at 1 octets) (λ k. fields_at k.0 k.1 >>= λ x. cond (eqb (length x.1) 0) (Some x.0) None) r e in
    let x = bind_some (fields_at k.0.0 k.0.1) (λ x. cond (eqb (length x.1) 0) (Some x.0) None) r k.2 in
    let ended : (length x.0.1 ≡ 0) × (done x.0.0 ≡ Some r) = elim (pick (length x.0.1) 0 (Some x.0.0) None r x.2) [ inl p ↦ p | inr none ↦ absurd cc ] in
    let t1 = one_codec.takes octets k.0.0 k.0.1 h k.1 in
    let s = fields_take k.0.0 k.0.1 x.0.0 x.0.1 t1.0.rest_fits x.1 in
    let nothing : x.0.1 ≡ [] = nil_from_length x.0.1 ended.0 in
    let fields_are : k.0.1 ≡ concat (fields x.0.0) = s.taken.parts ∙ ap (λ (t : List ℕ). concat (fields x.0.0) ++ t) nothing ∙ append-nil (concat (fields x.0.0)) in
    let whole : octets ≡ payload x.0.0 = t1.0.parts ∙ ap (λ (t : List ℕ). k.0.0 ∷ t) fields_are ∙ ap (λ (n : ℕ). n ∷ concat (fields x.0.0)) (sym s.kind_is) in
    subst (λ (r : JournalRecord). (octets ≡ payload r) × Fits r) (some_is x.0.0 r ended.1) (whole, s.fits)
