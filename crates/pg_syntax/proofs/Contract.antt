-- The laws, in the words of the contracts.
use Rattle.std.proofs.Common.{◌≡◌, ◌≢◌, ◌⊎◌, inl, inr, ℕ, Bool, true, false, List, Option, Some, None, Result, Ok, Err, refl, ap, ◌∙◌}
use Rattle.std.specs.Prelude.{◌↔◌, IfOk, IfErr, IsErrOf}
use Rattle.pg_meaning.specs.Depth.{is_too_deep}
use Rattle.pg_meaning.specs.Grammar.{Reads}
use Rattle.pg_meaning.specs.Parse.{query_of}
use Rattle.pg_meaning.specs.Texts.{read_query, read_tokens}
use Rattle.pg_meaning.specs.Tokens.{Token, Lexes}
use Rattle.pg_meaning.specs.Tree as tree
use Rattle.pg_meaning.specs.declared.fault.Fault.{Fault}
use Rattle.pg_meaning.specs.declared.fault.Fault.TheVariants.{TooDeep, BadSyntax, OutOfMemory}
use Rattle.pg_grammar.proofs.Joined.{reads_exactly, one_reading}
use Rattle.pg_syntax.specs.Answers.{Answers}
use Rattle.pg_syntax_tree.specs.View.{query_view}
use Rattle.pg_syntax_tree.specs.declared.clauses.Query.{Query}

abbrev answered : Bool → Option tree.Query → Result tree.Query Fault
answered deep o = elim deep [ true ↦ Err TooDeep | false ↦ read_query o ]

ok_of : (deep : Bool) (o : Option tree.Query) (q : tree.Query) → answered deep o ≡ Ok q → o ≡ Some q
ok_of true o q e = absurd cc
ok_of false None q e = absurd cc
ok_of false (Some p) q e = cc

bad_of : (deep : Bool) (o : Option tree.Query) → answered deep o ≡ Err BadSyntax → o ≡ None
bad_of true o e = absurd cc
bad_of false None e = refl
bad_of false (Some p) e = absurd cc

deep_of : (deep : Bool) (o : Option tree.Query) → answered deep o ≡ Err TooDeep → deep ≡ true
deep_of true o e = refl
deep_of false None e = absurd cc
deep_of false (Some p) e = absurd cc

faults_of : (deep : Bool) (o : Option tree.Query) (e : Fault) → answered deep o ≡ Err e → (e ≡ TooDeep) ⊎ ((e ≡ BadSyntax) ⊎ (e ≡ OutOfMemory))
faults_of true o e h = inl cc
faults_of false None e h = inr (inl cc)
faults_of false (Some p) e h = absurd cc

module _ (text : List ℕ) (ts : List Token) where
  abbrev Answered : Result Query Fault → Type 0
  Answered r = Answers query_view (read_tokens text (Some ts)) r

  pub is_found : (r : Result Query Fault) → Answered r → IfOk r (λ q. Lexes text ts → Reads text ts (query_view q))
  is_found (Ok q) a = λ lexes. (reads_exactly text ts (query_view q) lexes).1 (ok_of (is_too_deep ts) (query_of text ts) (query_view q) a)
  is_found (Err e) a = tt

  pub is_only : (r : Result Query Fault) → Answered r → (q : tree.Query) → Lexes text ts → Reads text ts q → IfOk r (λ r. query_view r ≡ q)
  is_only (Ok r) a q lexes reads = one_reading text ts (query_view r) q (is_found (Ok r) a lexes) reads
  is_only (Err e) a q lexes reads = tt

  pub is_none : (r : Result Query Fault) → Answered r → IsErrOf r BadSyntax → (q : tree.Query) → Lexes text ts → Reads text ts q → ⊥
  is_none (Ok r) a bad q lexes reads = let no : Ok r ≡ Err BadSyntax = bad in absurd cc
  is_none (Err e) a bad q lexes reads =
      let is : e ≡ BadSyntax = cc in
      elim a [
        | inl h ↦ absurd cc
        | inr h ↦
            let none = bad_of (is_too_deep ts) (query_of text ts) (h ∙ ap (λ (e : Fault). Err e) is) in
            let some = (reads_exactly text ts q lexes).0 reads in absurd cc
      ]

  pub is_deep : (r : Result Query Fault) → Answered r → (is_too_deep ts ≡ true → r ≡ Err TooDeep) → IsErrOf r TooDeep ↔ (is_too_deep ts ≡ true)
  is_deep r a deep = (λ h. by r a h, deep)
    where
      by : (r : Result Query Fault) → Answered r → IsErrOf r TooDeep → is_too_deep ts ≡ true
      by (Ok q) a h = let no : Ok q ≡ Err TooDeep = h in absurd cc
      by (Err e) a h =
          let is : e ≡ TooDeep = cc in
          elim a [
            | inl g ↦ absurd cc
            | inr g ↦ deep_of (is_too_deep ts) (query_of text ts) (g ∙ ap (λ (e : Fault). Err e) is)
          ]

  pub is_fault : (r : Result Query Fault) → Answered r → IfErr r (λ e. (e ≡ TooDeep) ⊎ ((e ≡ BadSyntax) ⊎ (e ≡ OutOfMemory)))
  is_fault (Ok q) a = tt
  is_fault (Err e) a = elim a [ inl h ↦ inr (inr h) | inr h ↦ faults_of (is_too_deep ts) (query_of text ts) e h ]

  pub is_answer : (r : Result Query Fault) → Answered r → IfOk r (λ q. read_tokens text (Some ts) ≡ Ok (query_view q))
  is_answer (Ok q) a = a
  is_answer (Err e) a = tt

  pub is_refusal : (r : Result Query Fault) → Answered r → IfErr r (λ e. e ≢ OutOfMemory → read_tokens text (Some ts) ≡ Err e)
  is_refusal (Ok q) a = tt
  is_refusal (Err e) a = λ other. elim a [ inl h ↦ absurd (other h) | inr h ↦ h ]
