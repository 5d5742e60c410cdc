-- A row taken into the aggregates of one group, which lie among those of all.
use Rattle.std.proofs.Common.{◌≡◌, ℕ, ◌+◌, ◌≤◌, List, ◌++◌, length, take, drop, Result, Ok, Err, refl, sym, ap, ◌∙◌}
use Rattle.std.proofs.lemmas.List.{length-drop, length-map, length-take-le, take_at}
use Rattle.pg_project.proofs.Numbered.{as_long}
use Rattle.pg_project.proofs.Parted.{part_seen, rest_holds, written, written_long}
use Rattle.pg_project.specs.Kept.{Answers, all_taken_in}
use Rattle.pg_project.specs.KeptGroups.{taken_in_at}
use Rattle.pg_project.specs.Summaries as kept
use Rattle.pg_project.specs.Views.{taken_view, takens_view}
use Rattle.pg_project.specs.declared.taken.Taken.{Taken}
use Rattle.pg_meaning.specs.Aggregates.{Aggregate}
use Rattle.pg_meaning.specs.Answer.{◌>>=◌}
use Rattle.pg_meaning.specs.declared.fault.Fault.{Fault}

module _ (at : Answers) (aggregates : List Aggregate) (each start n s len : ℕ) (old lent mid : List Taken) (wide : n ≡ each) (here : s ≡ start) (same : lent ≡ old) (is : mid ≡ take n (drop s old)) (counted : len ≡ length old) (fits : s + n ≤ length old) where
  abbrev whole : List kept.Taken → Result (List kept.Taken) Fault
  whole us = Ok (take s (takens_view old) ++ (us ++ drop n (drop s (takens_view old))))

  asked : taken_in_at at aggregates each start (takens_view old) ≡ (all_taken_in at aggregates (takens_view mid) >>= λ us. whole us)
  asked =
      (λ i. taken_in_at at aggregates (sym wide i) (sym here i) (takens_view old))
      ∙ ap (λ vs. all_taken_in at aggregates vs >>= λ us. whole us) (sym (part_seen taken_view s n old) ∙ sym (ap takens_view is))

  abbrev part : List Taken → List Taken → List Taken
  part ts new = take s ts ++ (new ++ drop n (drop s ts))

  new_long : (new : List Taken) → all_taken_in at aggregates (takens_view mid) ≡ Ok (takens_view new) → length new ≡ n
  new_long new h =
      sym (length-map new taken_view)
      ∙ as_long at aggregates (takens_view mid) (takens_view new) h
      ∙ length-map mid taken_view
      ∙ ap length is
      ∙ length-take-le n (drop s old) (rest_holds s n (length old) (length old) (length (drop s old)) fits refl (length-drop s old))

  pub in_part : (new : List Taken) → all_taken_in at aggregates (takens_view mid) ≡ Ok (takens_view new)
      → taken_in_at at aggregates each start (takens_view old) ≡ Ok (takens_view (take len (part lent new ++ drop (length (part lent new)) old)))
  in_part new h = asked ∙ ap (λ a. a >>= λ us. whole us) h ∙ ap Ok (sym (written taken_view s n old new)) ∙ ap (λ ts. Ok (takens_view ts)) (sym back)
    where
      back : take len (part lent new ++ drop (length (part lent new)) old) ≡ part old new
      back =
          take_at (part lent new) (drop (length (part lent new)) old) len (ap (λ ts. length (part ts new)) same ∙ written_long s n old new fits (new_long new h) ∙ sym counted)
          ∙ ap (λ ts. part ts new) same

  pub part_refused : (f : Fault) → all_taken_in at aggregates (takens_view mid) ≡ Err f → taken_in_at at aggregates each start (takens_view old) ≡ Err f
  part_refused f h = asked ∙ ap (λ a. a >>= λ us. whole us) h
