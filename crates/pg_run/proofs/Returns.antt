-- RETURN whose rows are told one after the other.
use Rattle.std.proofs.Common.{◌≡◌, ℕ, ◌+◌, Bool, List, [], ◌∷◌, ◌++◌, map, length, length-append, Result, Ok, Err, None, refl, sym, ap, subst, ◌∙◌, arith}
use Rattle.std.proofs.lemmas.List.{length-map}
use Rattle.serde_json.specs.Data.{Items}
use Rattle.pg_json.specs.Pages.{QueryText}
use Rattle.pg_project.specs.Items.{columns_of}
use Rattle.pg_meaning.specs.Answer.{◌>>=◌, each_answer}
use Rattle.pg_meaning.specs.Graph.{Graph}
use Rattle.pg_meaning.specs.Meters.{Setting, State, spend}
use Rattle.pg_meaning.specs.Projections.{project_clause}
use Rattle.pg_meaning.specs.Rows.{values_in}
use Rattle.pg_meaning.specs.Scopes.{Column, column_names, return_column, return_columns, star_columns}
use Rattle.pg_meaning.specs.Tree.{Expression, Item, Projection}
use Rattle.pg_meaning.specs.Value.{Value}
use Rattle.pg_meaning.specs.declared.fault.Fault.{Fault}
use Rattle.pg_project.proofs.ColumnViews.{names_are, of_items}
use Rattle.pg_project.proofs.InTurn.{after, after_one, first_of_rest, nothing_behind}
use Rattle.pg_project.proofs.Kept.{none_cut}
use Rattle.pg_project.proofs.ReturnedInTurn.{each_projected, each_told}
use Rattle.pg_project.proofs.Projecting.{all_projected, rows_fail, steps_fail}
use Rattle.pg_project.specs.Columns.{values_in_items}
use Rattle.pg_project.specs.Cuts.{LetsIn}
use Rattle.pg_project.specs.Given.{Cut, cut_given, cut_of, values_given}
use Rattle.pg_project.specs.Parts.{rows_projected}
use Rattle.pg_project.specs.Returned.{ComeInTurn}
use Rattle.pg_run.specs.Returning.{RowPassed, named_items, returned}
use Rattle.pg_rows.specs.Named.{rows_named}
use Rattle.pg_rows.specs.States.{Named, named_rows, state_of}
use Rattle.pg_run.specs.Telling.{IsTelling, IsTellingRow, told}
use Rattle.pg_run.specs.Told.{rows_told}
use Rattle.pg_run.specs.declared.reply_writer.ReplyWriter.{ReplyWriter}
use Rattle.pg_scope.specs.declared.columns.Naming.TheVariants.{Source}
use Rattle.pg_value_core.specs.Gives.{Gives}

-- ---- what is left, after those that are told

-- of the items at a row
pub record ItemsSoFar {X : Type 0} (graph : Graph) (f : X → Result Value Fault) (all rest : List X) (start t : ReplyWriter) : Type 0 where
  pub values : List Value
  pub given : each_answer f all ≡ after values (each_answer f rest)
  pub telling : (notes : Bool) (columns : Items) (rows : List (List Value)) → IsTellingRow notes graph columns rows [] start → IsTellingRow notes graph columns rows values t

-- of the items at a row that isn't let in
pub record TestedSoFar {X : Type 0} (f : X → Result Value Fault) (all rest : List X) : Type 0 where
  pub values : List Value
  pub given : each_answer f all ≡ after values (each_answer f rest)

-- of the rows, of which so many were looked at
pub record RowsSoFar {X : Type 0} (graph : Graph) (c : Cut) (f : X → Result (List Value) Fault) (all rest : List X) (at : ℕ) (start t : ReplyWriter) : Type 0 where
  pub rows : List (List Value)
  pub many : length rows ≡ at
  pub given : each_answer f all ≡ after rows (each_answer f rest)
  pub telling : (notes : Bool) (columns : Items) → IsTelling notes graph columns [] start → IsTelling notes graph columns (cut_of c rows) t

whole : {Y : Type 0} (a : Result (List Y) Fault) → a ≡ after [] a
whole (Ok ys) = refl
whole (Err e) = refl

module _ {X Y : Type 0} (f : X → Result Y Fault) (all rest more : List X) (x : X) (done : List Y) where
  one_given : (y : Y) → each_answer f all ≡ after done (each_answer f rest) → rest ≡ x ∷ more → f x ≡ Ok y → each_answer f all ≡ after (done ++ y ∷ []) (each_answer f more)
  one_given y so_far is h =
      so_far ∙ ap (λ xs. after done (each_answer f xs)) is ∙ ap (after done) (first_of_rest f x (Ok y) more h) ∙ after_one done y (each_answer f more)

  fault_given : (e : Fault) → each_answer f all ≡ after done (each_answer f rest) → rest ≡ x ∷ more → f x ≡ Err e → each_answer f all ≡ Err e
  fault_given e so_far is h = so_far ∙ ap (λ xs. after done (each_answer f xs)) is ∙ ap (after done) (first_of_rest f x (Err e) more h)

none_left : {X Y : Type 0} (f : X → Result Y Fault) (all rest : List X) (done : List Y) → each_answer f all ≡ after done (each_answer f rest) → rest ≡ [] → each_answer f all ≡ Ok done
none_left f all rest done so_far is = so_far ∙ ap (λ xs. after done (each_answer f xs)) is ∙ ap Ok (nothing_behind done)

module _ {X : Type 0} (graph : Graph) (start : ReplyWriter) where
  module _ (f : X → Result Value Fault) where
    pub no_item : (all : List X) → ItemsSoFar graph f all all start start
    no_item all = record { values = []; given = whole (each_answer f all); telling = λ notes columns rows h. h }

    pub one_item : (all rest more : List X) (t new : ReplyWriter) (x : X) (v : Value) → ItemsSoFar graph f all rest start t → rest ≡ x ∷ more → f x ≡ Ok v
        → ((notes : Bool) (columns : Items) (rows : List (List Value)) (row : List Value) → IsTellingRow notes graph columns rows row t → IsTellingRow notes graph columns rows (row ++ v ∷ []) new)
        → ItemsSoFar graph f all more start new
    one_item all rest more t new x v so_far is h takes = record {
      values = so_far.values ++ v ∷ [];
      given = one_given f all rest more x so_far.values v so_far.given is h;
      telling = λ notes columns rows first. takes notes columns rows so_far.values (so_far.telling notes columns rows first);
    }

    pub item_fault : (all rest more : List X) (t : ReplyWriter) (x : X) (e : Fault) → ItemsSoFar graph f all rest start t → rest ≡ x ∷ more → f x ≡ Err e → each_answer f all ≡ Err e
    item_fault all rest more t x e so_far is h = fault_given f all rest more x so_far.values e so_far.given is h

    pub all_items : (all rest : List X) (t : ReplyWriter) (so_far : ItemsSoFar graph f all rest start t) → rest ≡ [] → each_answer f all ≡ Ok so_far.values
    all_items all rest t so_far is = none_left f all rest so_far.values so_far.given is

  module _ (c : Cut) (f : X → Result (List Value) Fault) where
    pub no_row : (all : List X) → RowsSoFar graph c f all all 0 start start
    no_row all = record {
      rows = [];
      many = refl;
      given = whole (each_answer f all);
      telling = λ notes columns h. subst (λ rows. IsTelling notes graph columns rows start) (sym (none_cut c)) h;
    }

    module _ (all rest more : List X) (at : ℕ) (t : ReplyWriter) (x : X) (so_far : RowsSoFar graph c f all rest at start t) (is : rest ≡ x ∷ more) where
      pub one_row : (is_in : Bool) (new : ReplyWriter) → LetsIn c at is_in → (here : RowPassed graph is_in (f x) t new) → RowsSoFar graph c f all more (at + 1) start new
      one_row is_in new lets here = record {
        rows = so_far.rows ++ here.values ∷ [];
        many = omega (arith, so_far.many, length-append so_far.rows (here.values ∷ []));
        given = one_given f all rest more x so_far.rows here.values so_far.given is here.are;
        telling = λ notes columns first.
            subst (λ rows. IsTelling notes graph columns rows new) (sym (lets so_far.rows here.values so_far.many)) (here.telling notes columns (cut_of c so_far.rows) (so_far.telling notes columns first));
      }

      pub row_fault : (e : Fault) → f x ≡ Err e → each_answer f all ≡ Err e
      row_fault e h = fault_given f all rest more x so_far.rows e so_far.given is h

    pub all_rows : (all rest : List X) (at : ℕ) (t : ReplyWriter) (so_far : RowsSoFar graph c f all rest at start t) → rest ≡ [] → each_answer f all ≡ Ok so_far.rows
    all_rows all rest at t so_far is = none_left f all rest so_far.rows so_far.given is

module _ {X : Type 0} (f : X → Result Value Fault) where
  pub no_item_tested : (all : List X) → TestedSoFar f all all
  no_item_tested all = record { values = []; given = whole (each_answer f all) }

  module _ (all rest more : List X) (x : X) (so_far : TestedSoFar f all rest) (is : rest ≡ x ∷ more) where
    pub item_tested : (v : Value) → f x ≡ Ok v → TestedSoFar f all more
    item_tested v h = record { values = so_far.values ++ v ∷ []; given = one_given f all rest more x so_far.values v so_far.given is h }

    pub item_refused : (e : Fault) → f x ≡ Err e → each_answer f all ≡ Err e
    item_refused e h = fault_given f all rest more x so_far.values e so_far.given is h

  pub all_tested : (all rest : List X) (so_far : TestedSoFar f all rest) → rest ≡ [] → each_answer f all ≡ Ok so_far.values
  all_tested all rest so_far is = none_left f all rest so_far.values so_far.given is

-- ---- columns of items alone

pub item_lengths : (items : List Item) → length (column_names (map return_column items)) ≡ length (values_in_items items)
item_lengths items =
    length-map (map return_column items) (λ (c : Column). c.name)
    ∙ length-map items return_column
    ∙ sym (length-map items (λ (i : Item). i.value))

pub item_columns : (scope : List (List ℕ)) (p : Projection) → p.star ≡ None → columns_of (column_names (map return_column p.items)) (values_in_items p.items) ≡ return_columns scope p
item_columns scope p none = of_items Source p.items ∙ ap (λ star. star_columns scope star ++ map return_column p.items) (sym none)

-- ---- the clause, whose rows come in turn

module _ (notes : Bool) (s : Setting) (graph : Graph) (p : Projection) (t : Named) (used : ℕ) (columns : List (List ℕ)) (es : List Expression) (same : length columns ≡ length es) (are : columns_of columns es ≡ return_columns s.scope p) (kept : ComeInTurn p (return_columns s.scope p)) where
  abbrev cut : Result Cut Fault
  cut = cut_given s.parameters graph p.skip p.limit

  abbrev given : Result (List (List Value)) Fault
  given = each_answer (values_given s.parameters graph t.names es) t.rows

  abbrev reply : State → Result QueryText Fault
  reply last = told notes last.graph (named_items (column_names (return_columns s.scope p))) (map values_in last.rows) last.steps

  abbrev clause : Result State Fault
  clause = project_clause s (return_columns s.scope p) p None (state_of graph t used)

  projected : rows_projected s graph (return_columns s.scope p) p None (named_rows t) ≡ (cut >>= λ c. given >>= λ found. Ok (rows_named columns (cut_of c found)))
  projected = ap (λ cs. rows_projected s graph cs p None (named_rows t)) (sym are) ∙ each_projected s graph t.names columns es same t.rows p (subst (ComeInTurn p) (sym are) kept)

  names : column_names (return_columns s.scope p) ≡ columns
  names = ap column_names (sym are) ∙ names_are columns es same

  module _ (steps : ℕ) (spent : spend s used (length t.rows) ≡ Ok steps) where
    fails : (e : Fault) → (cut >>= λ c. given >>= λ found. Ok (rows_named columns (cut_of c found))) ≡ Err e → returned notes s p (state_of graph t used) ≡ Err e
    fails e h = ap (λ a. a >>= reply) (rows_fail s graph (return_columns s.scope p) p None t used steps spent e (projected ∙ h))

    by_rows : (c : Cut) → cut ≡ Ok c → (a : Result (List (List Value)) Fault) → given ≡ a
        → returned notes s p (state_of graph t used) ≡ (a >>= λ found. told notes graph (named_items columns) (cut_of c found) steps)
    by_rows c is (Ok found) h =
        ap (λ a. a >>= reply)
        (all_projected s graph (return_columns s.scope p) p None t used steps spent (record { names = columns; rows = cut_of c found })
        (projected ∙ ap (λ a. a >>= λ c. given >>= λ found. Ok (rows_named columns (cut_of c found))) is ∙ ap (λ a. a >>= λ found. Ok (rows_named columns (cut_of c found))) h))
        ∙ (λ i. told notes graph (named_items (names i)) (each_told s graph t.names columns es same t.rows c found h i) steps)
    by_rows c is (Err e) h =
        fails e (ap (λ a. a >>= λ c. given >>= λ found. Ok (rows_named columns (cut_of c found))) is ∙ ap (λ a. a >>= λ found. Ok (rows_named columns (cut_of c found))) h)

    by_cut : (a : Result Cut Fault) → cut ≡ a → returned notes s p (state_of graph t used) ≡ (a >>= λ c. given >>= λ found. told notes graph (named_items columns) (cut_of c found) steps)
    by_cut (Ok c) h = by_rows c h given refl
    by_cut (Err e) h = fails e (ap (λ a. a >>= λ c. given >>= λ found. Ok (rows_named columns (cut_of c found))) h)

  by_steps : (a : Result ℕ Fault) → spend s used (length t.rows) ≡ a
      → returned notes s p (state_of graph t used) ≡ (a >>= λ steps. cut >>= λ c. given >>= λ found. told notes graph (named_items columns) (cut_of c found) steps)
  by_steps (Ok steps) h = by_cut steps h cut refl
  by_steps (Err e) h = ap (λ a. a >>= reply) (steps_fail s graph (return_columns s.scope p) p None t used e h)

  pub returned_each : returned notes s p (state_of graph t used) ≡ (spend s used (length t.rows) >>= λ steps. cut >>= λ c. given >>= λ found. told notes graph (named_items columns) (cut_of c found) steps)
  returned_each = by_steps (spend s used (length t.rows)) refl

-- ---- the clause, whose rows are made first

module _ (notes : Bool) (s : Setting) (p : Projection) (state : State) where
  abbrev all_of : State → Result QueryText Fault
  all_of last = told notes last.graph (named_items (column_names (return_columns s.scope p))) (map values_in last.rows) last.steps

  pub returned_all : (graph : Graph) (t : Named) (steps : ℕ) → project_clause s (return_columns s.scope p) p None state ≡ Ok (state_of graph t steps) → t.names ≡ column_names (return_columns s.scope p)
      → returned notes s p state ≡ told notes graph (named_items t.names) (rows_told t) steps
  returned_all graph t steps h names = ap (λ a. a >>= all_of) h ∙ ap (λ (ns : List (List ℕ)). told notes graph (named_items ns) (rows_told t) steps) (sym names)

  pub returned_fails : (e : Fault) → project_clause s (return_columns s.scope p) p None state ≡ Err e → returned notes s p state ≡ Err e
  returned_fails e h = ap (λ a. a >>= all_of) h

-- ---- answers that are equal

pub gives_same : {X A : Type 0} (r : Result X Fault) (a b : Result A Fault) (seen : X → A) → a ≡ b → Gives r b seen → Gives r a seen
gives_same r a b seen is h = subst (λ x. Gives r x seen) (sym is) h
