-- Turn after turn of a loop whose items and answers are seen as others.
use Rattle.std.proofs.Common.{◌≡◌, ◌<◌, ◌≤◌, ◌+◌, ℕ, List, [], ◌∷◌, ◌++◌, map, drop, get_or, length, Result, Ok, Err, sym, ap, subst, ◌∙◌, arith}
use Rattle.std.proofs.lemmas.List.{drop_more, drop_all, length-append, map-append}
use Rattle.pg_meaning.specs.Answer.{each_answer}
use Rattle.pg_meaning.specs.declared.fault.Fault.{Fault}
use Rattle.pg_project.proofs.InTurn.{after, after_one, first_of_rest, nothing_behind}

module _ {S X V Y : Type 0} (seen : S → X) (f : X → Result Y Fault) (shown : V → Y) (xs ss : List S) (same : xs ≡ ss) (i : ℕ) (done : List V) (whole : Result (List Y) Fault) (all : whole ≡ after (map shown done) (each_answer f (map seen (drop i ss)))) where
  module _ (s : S) (within : i < length xs) (is : s ≡ get_or xs i s) where
    next : drop i ss ≡ s ∷ drop (i + 1) ss
    next = drop_more ss i s (subst (λ (ys : List S). i < length ys) same within) ∙ ap (λ y. y ∷ drop (i + 1) ss) (sym (is ∙ ap (λ (ys : List S). get_or ys i s) same))

    turn : (a : Result Y Fault) → f (seen s) ≡ a → whole ≡ after (map shown done) (each_answer f (map seen (s ∷ drop (i + 1) ss)))
    turn a h = all ∙ ap (λ ys. after (map shown done) (each_answer f (map seen ys))) next

    pub turn_done : (v : V) (more : List V) → f (seen s) ≡ Ok (shown v) → more ≡ done ++ v ∷ [] → whole ≡ after (map shown more) (each_answer f (map seen (drop (i + 1) ss)))
    turn_done v more h pushed =
        let rest = each_answer f (map seen (drop (i + 1) ss)) in
        turn (Ok (shown v)) h
        ∙ ap (after (map shown done)) (first_of_rest f (seen s) (Ok (shown v)) (map seen (drop (i + 1) ss)) h)
        ∙ after_one (map shown done) (shown v) rest
        ∙ ap (λ ys. after ys rest) (sym (map-append shown done (v ∷ [])) ∙ sym (ap (map shown) pushed))

    pub turn_failed : (e : Fault) → f (seen s) ≡ Err e → whole ≡ Err e
    turn_failed e h = turn (Err e) h ∙ ap (after (map shown done)) (first_of_rest f (seen s) (Err e) (map seen (drop (i + 1) ss)) h)

  pub turns_over : length xs ≤ i → whole ≡ Ok (map shown done)
  turns_over past = all ∙ ap (λ ys. after (map shown done) (each_answer f (map seen ys))) (drop_all i ss (subst (λ (ys : List S). length ys ≤ i) same past)) ∙ ap Ok (nothing_behind (map shown done))

pub one_longer : {V : Type 0} (done more : List V) (v : V) (i : ℕ) → more ≡ done ++ v ∷ [] → length done ≡ i → length more ≡ i + 1
one_longer done more v i pushed long = ap length pushed ∙ length-append done (v ∷ []) ∙ ap (λ n. n + 1) long

pub all_long : {S : Type 0} (xs ss : List S) (n i : ℕ) → xs ≡ ss → n ≡ i → i ≤ length xs → length xs ≤ i → n ≡ length ss
all_long xs ss n i same long within past = long ∙ (let e : i ≡ length xs = omega arith in e) ∙ ap length same
