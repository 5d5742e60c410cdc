-- A reply while its rows are told: one value more, one row more, and its end.
use Rattle.std.proofs.Common.{◌≡◌, ◌≢◌, ℕ, ◌+◌, ◌-◌, ◌<◌, ◌≤◌, Bool, true, false, List, [], ◌∷◌, ◌++◌, map, length, take, slice_get, zero, suc, flat_map, Result, Ok, Err, IfOk, IfErr, OnOk, Option, Some, None, inl, inr, arith, refl, sym, ap, subst, ◌∙◌}
use Rattle.std.proofs.lemmas.Bool.{le-leb}
use Rattle.std.proofs.lemmas.Bool.Decides.{leb_tells}
use Rattle.std.proofs.lemmas.List.{map-append, map_push}
use Rattle.std.proofs.lemmas.Result.{on_ok_weaker}
use Rattle.std.specs.Prelude.{nat_le, cond, is_some}
use Rattle.serde_json.specs.Data.{Data, Items, no_items, item}
use Rattle.pg_json.proofs.Lengths.{rows_within}
use Rattle.pg_json.specs.Replies.{items_of, max_reply}
use Rattle.pg_json.specs.Room.{least, items_least}
use Rattle.pg_json.specs.Pages.{QueryText, query_text}
use Rattle.pg_json.specs.Rows.{rows_data, rows_text}
use Rattle.pg_json.specs.Telling.{HasRow, HasWritten}
use Rattle.pg_meaning.specs.Answer.{◌>>◌}
use Rattle.pg_meaning.specs.Graph.{Graph}
use Rattle.pg_meaning.specs.Queries.{test_output, test_items}
use Rattle.pg_meaning.specs.Value.{Value, values_of}
use Rattle.pg_meaning.specs.declared.fault.Fault.{Fault}
use Rattle.pg_meaning.specs.declared.fault.Fault.TheVariants.{OutOfMemory, ReplyTooLong}
use Rattle.pg_run.proofs.Places.{then_ok, regroup}
use Rattle.pg_run.proofs.Told.{tests_joined}
use Rattle.pg_run.specs.Printed.{printed, printed_items}
use Rattle.pg_run.specs.Telling.{IsTelling, IsTellingRow, Puts, Tested, fitting, rows_least, told, whole_room}
use Rattle.pg_run.specs.Told.{printed_rows, test_told}
use Rattle.pg_run.specs.declared.reply_writer.ReplyWriter.{ReplyWriter}
use Rattle.pg_value_core.specs.Gives.{Gives}

-- ---- options, and lists by place

pub none_of : {X : Type 0} (f : Option X) → is_some f ≡ false → f ≡ None
none_of None h = refl
none_of (Some x) h = cc

pub take_here : {X : Type 0} (xs : List X) (i : ℕ) (x : X) → slice_get xs i ≡ Some x → take (i + 1) xs ≡ take i xs ++ x ∷ []
take_here [] i x h = cc
take_here (y ∷ ys) zero x h = let e : y ≡ x = cc in ap (λ z. z ∷ []) e
take_here (y ∷ ys) (suc i) x h = ap (λ k. take k (y ∷ ys)) (let e : suc i + 1 ≡ suc (i + 1) = omega arith in e) ∙ ap (λ zs. y ∷ zs) (take_here ys i x h)

apart : {X : Type 0} (f : Option X) (x : X) → f ≡ Some x → f ≢ None
apart {X} f x is = λ none. let clash : ◌≡◌ {A = Option X} (Some x) None = sym is ∙ none in cc

pub none_mapped : {X Y : Type 0} (f : X → Y) (xs : List X) → length xs ≡ 0 → map f xs ≡ []
none_mapped f [] h = refl
none_mapped f (x ∷ xs) h = absurd (omega (arith, h))

-- ---- at the end of a list

abbrev items_then : Items → Data → Items
items_then no_items d = item d no_items
items_then (item x ds) d = item x (items_then ds d)

least_then : (ds : Items) (d : Data) → items_least (items_then ds d) ≡ items_least ds + (least d + 1)
least_then no_items d = omega arith
least_then (item x ds) d = omega (arith, least_then ds d)

rows_least_then : (rows : List Items) (row : Items) → items_least (rows_data (rows ++ row ∷ [])) ≡ items_least (rows_data rows) + (items_least row + 2)
rows_least_then [] row = omega arith
rows_least_then (r ∷ rows) row = omega (arith, rows_least_then rows row)

module _ (graph : Graph) where
  printed_last : (vs : List Value) (v : Value) → printed_items graph (values_of (vs ++ v ∷ [])) ≡ items_then (printed_items graph (values_of vs)) (printed graph v)
  printed_last [] v = refl
  printed_last (x ∷ vs) v = ap (item (printed graph x)) (printed_last vs v)

  test_last : (vs : List Value) (v : Value) → test_items graph (values_of (vs ++ v ∷ [])) ≡ (test_items graph (values_of vs) >> test_output graph v)
  test_last [] v = sym (then_ok (test_output graph v))
  test_last (x ∷ vs) v = ap (λ r. test_output graph x >> r) (test_last vs v) ∙ sym (regroup (test_output graph x) (test_items graph (values_of vs)) (test_output graph v))

  told_last : (rows : List (List Value)) (vs : List Value) → test_told graph (rows ++ vs ∷ []) ≡ (test_told graph rows >> test_items graph (values_of vs))
  told_last [] vs = tests_joined graph vs [] ∙ sym (then_ok (test_items graph (values_of vs)))
  told_last (r ∷ rows) vs =
      tests_joined graph r (flat_map (λ x. x) (rows ++ vs ∷ []))
      ∙ ap (λ a. test_items graph (values_of r) >> a) (told_last rows vs)
      ∙ sym (regroup (test_items graph (values_of r)) (test_told graph rows) (test_items graph (values_of vs)))
      ∙ ap (λ a. a >> test_items graph (values_of vs)) (sym (tests_joined graph r (flat_map (λ x. x) rows)))

  -- the values of a row
  row_printed : (vs : List Value) → items_of (map (printed graph) vs) ≡ printed_items graph (values_of vs)
  row_printed [] = refl
  row_printed (v ∷ vs) = ap (item (printed graph v)) (row_printed vs)

  -- ---- one value more

  module _ (notes : Bool) (columns : Items) (rows : List (List Value)) (row : List Value) (t : ReplyWriter) (v : Value) (so_far : IsTellingRow notes graph columns rows row t) where
    abbrev before : Result (Unit {0}) Fault
    before = test_told graph rows >> test_items graph (values_of row)

    then_last : (test_told graph rows >> test_items graph (values_of (row ++ v ∷ []))) ≡ (before >> test_output graph v)
    then_last = ap (λ r. test_told graph rows >> r) (test_last row v) ∙ sym (regroup (test_told graph rows) (test_items graph (values_of row)) (test_output graph v))

    least_last : items_least (printed_items graph (values_of (row ++ v ∷ []))) ≡ items_least (printed_items graph (values_of row)) + (least (printed graph v) + 1)
    least_last = ap items_least (printed_last row v) ∙ least_then (printed_items graph (values_of row)) (printed graph v)

    passed : t.fault ≡ None → before ≡ Ok tt
    passed none = subst (λ f. Tested f before) none so_far.tested

    pub one_more : {E : Type 0} (r : Result (Unit {0}) E) (put new : ReplyWriter) (d : Data) (taken : ℕ) → t.fault ≡ None → put.fault ≡ None → put.reply ≡ t.reply → test_output graph v ≡ Ok tt
        → put.room - taken ≡ t.room - 1 - least (printed graph v) → (new.room ≢ 0 → d ≡ printed graph v) → Puts r put new d taken → OnOk r (IsTellingRow notes graph columns rows (row ++ v ∷ []) new)
    one_more r put new d taken none still same live left is puts =
        let room : new.room ≡ t.room - 1 - least (printed graph v) = puts.room ∙ left in
        let had : new.room ≢ 0 → t.room ≢ 0 = λ some. λ zero. some (omega (arith, room, zero)) in
        let values : List Data = map (printed graph) row in
        on_ok_weaker r
        (λ writes. record {
          tested = subst (λ f. Tested f (test_told graph rows >> test_items graph (values_of (row ++ v ∷ [])))) (sym (puts.fault ∙ still)) (then_last ∙ ap (λ r. r >> test_output graph v) (passed none) ∙ live);
          counted = λ h. omega (arith, room, so_far.counted none, least_last);
          written = λ h. λ some.
              subst (HasRow new.reply notes columns (printed_rows graph rows)) (ap (λ e. values ++ e ∷ []) (is some) ∙ sym (map_push (printed graph) row v))
              (writes some (subst (λ q. HasRow q notes columns (printed_rows graph rows) values) (sym same) (so_far.written none (had some))));
        })
        (puts.written notes columns (printed_rows graph rows) values)

    -- a value whose text takes at least this room, whichever it is
    pub one_scalar : {E : Type 0} (r : Result (Unit {0}) E) (put new : ReplyWriter) (d : Data) → t.fault ≡ None → put.fault ≡ None → put.reply ≡ t.reply → test_output graph v ≡ Ok tt
        → put.room ≡ t.room - 1 → d ≡ printed graph v → Puts r put new d (least d) → OnOk r (IsTellingRow notes graph columns rows (row ++ v ∷ []) new)
    one_scalar r put new d none still same live left is puts =
        one_more r put new d (least d) none still same live (ap (λ n. n - least d) left ∙ ap (λ e. t.room - 1 - least e) is) (λ some. is) puts

    pub one_fault : (new : ReplyWriter) (e : Fault) → t.fault ≡ None → new.fault ≡ Some e → (e ≢ OutOfMemory → test_output graph v ≡ Err e) → IsTellingRow notes graph columns rows (row ++ v ∷ []) new
    one_fault new e none ends h = record {
      tested = subst (λ f. Tested f (test_told graph rows >> test_items graph (values_of (row ++ v ∷ [])))) (sym ends) (λ other. then_last ∙ ap (λ r. r >> test_output graph v) (passed none) ∙ h other);
      counted = λ none. absurd (apart new.fault e ends none);
      written = λ none. absurd (apart new.fault e ends none);
    }

    pub still_faulted : is_some t.fault ≡ true → IsTellingRow notes graph columns rows (row ++ v ∷ []) t
    still_faulted h = by t.fault refl h
      where
        by : (f : Option Fault) → t.fault ≡ f → is_some f ≡ true → IsTellingRow notes graph columns rows (row ++ v ∷ []) t
        by None is some = cc
        by (Some e) is some = record {
          tested = subst (λ f. Tested f (test_told graph rows >> test_items graph (values_of (row ++ v ∷ [])))) (sym is)
              (λ other. then_last ∙ ap (λ r. r >> test_output graph v) (subst (λ f. Tested f before) is so_far.tested other));
          counted = λ none. absurd (apart t.fault e is none);
          written = λ none. absurd (apart t.fault e is none);
        }

  -- ---- no row yet

  pub begun : (notes : Bool) (columns : Items) (t : ReplyWriter) → t.fault ≡ None → t.room ≡ whole_room → HasWritten t.reply notes columns [] → IsTelling notes graph columns [] t
  begun notes columns t none room first = record {
    tested = subst (λ f. Tested f (Ok tt)) (sym none) refl;
    counted = λ h. room ∙ omega arith;
    written = λ h. λ some. first;
  }

  -- ---- one row more

  pub row_begun : (notes : Bool) (columns : Items) (rows : List (List Value)) (t new : ReplyWriter) → IsTelling notes graph columns rows t → new.fault ≡ t.fault → new.room ≡ t.room
      → (new.fault ≡ None → new.room ≢ 0 → HasWritten t.reply notes columns (printed_rows graph rows) → HasRow new.reply notes columns (printed_rows graph rows) [])
      → IsTellingRow notes graph columns rows [] new
  row_begun notes columns rows t new so_far same left writes = record {
    tested = subst (λ f. Tested f (test_told graph rows >> Ok tt)) (sym same) (subst (Tested t.fault) (then_ok (test_told graph rows)) so_far.tested);
    counted = λ none. omega (arith, left, so_far.counted (sym same ∙ none));
    written = λ none. λ some. writes none some (so_far.written (sym same ∙ none) (λ zero. some (left ∙ zero)));
  }

  pub row_ended : (notes : Bool) (columns : Items) (rows : List (List Value)) (values : List Value) (t new : ReplyWriter) → IsTellingRow notes graph columns rows values t → new.fault ≡ t.fault → new.room ≡ t.room - 2
      → (new.fault ≡ None → new.room ≢ 0 → HasRow t.reply notes columns (printed_rows graph rows) (map (printed graph) values) → HasWritten new.reply notes columns (printed_rows graph rows ++ items_of (map (printed graph) values) ∷ []))
      → IsTelling notes graph columns (rows ++ values ∷ []) new
  row_ended notes columns rows values t new so_far same left writes =
      let none_so_far : new.fault ≡ None → t.fault ≡ None = λ none. sym same ∙ none in
      let had : new.room ≢ 0 → t.room ≢ 0 = λ some. λ zero. some (omega (arith, left, zero)) in
      let is : printed_rows graph (rows ++ values ∷ []) ≡ printed_rows graph rows ++ printed_items graph (values_of values) ∷ [] = map-append (λ row. printed_items graph (values_of row)) rows (values ∷ []) in
      let whole : rows_least graph (rows ++ values ∷ []) ≡ rows_least graph rows + (items_least (printed_items graph (values_of values)) + 2) =
      ap (λ rs. items_least (rows_data rs)) is ∙ rows_least_then (printed_rows graph rows) (printed_items graph (values_of values)) in
      record {
        tested = subst (λ f. Tested f (test_told graph (rows ++ values ∷ []))) (sym same) (subst (Tested t.fault) (sym (told_last rows values)) so_far.tested);
        counted = λ none. omega (arith, left, so_far.counted (none_so_far none), whole);
        written = λ none. λ some.
            subst (HasWritten new.reply notes columns) (ap (λ ds. printed_rows graph rows ++ ds ∷ []) (row_printed values) ∙ sym is)
            (writes none some (so_far.written (none_so_far none) (had some)));
      }

  -- ---- the end

  module _ (notes : Bool) (columns : Items) (rows : List (List Value)) (steps : ℕ) (t : ReplyWriter) (all : IsTelling notes graph columns rows t) where
    abbrev text : List ℕ
    text = rows_text columns (printed_rows graph rows) steps

    abbrev reply : QueryText
    reply = query_text notes columns (printed_rows graph rows) steps

    abbrev kept : Bool → Result QueryText Fault
    kept fits = cond fits (Ok reply) (Err ReplyTooLong)

    pub ends_in_fault : (e : Fault) → t.fault ≡ Some e → e ≢ OutOfMemory → told notes graph columns rows steps ≡ Err e
    ends_in_fault e is other = ap (λ r. r >> fitting reply) (subst (λ f. Tested f (test_told graph rows)) is all.tested other)

    tested_all : t.fault ≡ None → told notes graph columns rows steps ≡ fitting reply
    tested_all none = ap (λ r. r >> fitting reply) (subst (λ f. Tested f (test_told graph rows)) none all.tested)

    fits_not : max_reply < length text → fitting reply ≡ Err ReplyTooLong
    fits_not long = ap kept (elim (leb_tells (length text) max_reply) as (λ _. nat_le (length text) max_reply ≡ false) [ inl w ↦ absurd (omega (arith, w.1)) | inr w ↦ w.0 ])

    pub ends_too_long : t.fault ≡ None → t.room ≡ 0 → told notes graph columns rows steps ≡ Err ReplyTooLong
    ends_too_long none gone = tested_all none ∙ fits_not (omega (arith, gone, all.counted none, rows_within columns (printed_rows graph rows) steps))

    pub ends_written : (r : Result QueryText Fault) → t.fault ≡ None → t.room ≢ 0
        → (HasWritten t.reply notes columns (printed_rows graph rows) → IfOk r (λ q. q ≡ reply)) → IfOk r (λ q. length q.text ≤ max_reply)
        → IfErr r (λ e. e ≢ OutOfMemory → e ≡ ReplyTooLong) → (HasWritten t.reply notes columns (printed_rows graph rows) → IfErr r (λ e. e ≢ OutOfMemory → max_reply < length text))
        → Gives r (told notes graph columns rows steps) (λ q. q)
    ends_written (Ok q) none some ok within kind long =
        let is : q ≡ reply = ok (all.written none some) in
        record {
          ok = tested_all none ∙ ap kept (le-leb (length text) max_reply (subst (λ r. length r.text ≤ max_reply) is within)) ∙ ap Ok (sym is);
          err = tt;
        }
    ends_written (Err e) none some ok within kind long = record {
      ok = tt;
      err = λ other. tested_all none ∙ fits_not (long (all.written none some) other) ∙ ap Err (sym (kind other));
    }

-- ---- the values of a row, and the rows, in turn

-- what is left of a row, after the values that are told
pub record ValuesTold (graph : Graph) (all rest : List Value) (start t : ReplyWriter) : Type 0 where
  pub done : List Value
  pub parts : all ≡ done ++ rest
  pub telling : (notes : Bool) (columns : Items) (rows : List (List Value)) → IsTellingRow notes graph columns rows [] start → IsTellingRow notes graph columns rows done t

-- what is left of the rows, after those that are told
pub record RowsTold (graph : Graph) (all rest : List (List Value)) (start t : ReplyWriter) : Type 0 where
  pub done : List (List Value)
  pub parts : all ≡ done ++ rest
  pub telling : (notes : Bool) (columns : Items) → IsTelling notes graph columns [] start → IsTelling notes graph columns done t

pub joined : {X : Type 0} (xs : List X) (y : X) (ys : List X) → (xs ++ y ∷ []) ++ ys ≡ xs ++ y ∷ ys
joined [] y ys = refl
joined (x ∷ xs) y ys = ap (λ zs. x ∷ zs) (joined xs y ys)

pub nothing_behind : {X : Type 0} (xs : List X) → xs ++ [] ≡ xs
nothing_behind [] = refl
nothing_behind (x ∷ xs) = ap (λ ys. x ∷ ys) (nothing_behind xs)

module _ (graph : Graph) (start : ReplyWriter) where
  pub no_value_told : (all : List Value) → ValuesTold graph all all start start
  no_value_told all = record { done = []; parts = refl; telling = λ notes columns rows h. h }

  pub one_value_told : (all rest more : List Value) (t new : ReplyWriter) (v : Value) → ValuesTold graph all rest start t → rest ≡ v ∷ more
      → ((notes : Bool) (columns : Items) (rows : List (List Value)) (row : List Value) → IsTellingRow notes graph columns rows row t → IsTellingRow notes graph columns rows (row ++ v ∷ []) new)
      → ValuesTold graph all more start new
  one_value_told all rest more t new v so_far is takes = record {
    done = so_far.done ++ v ∷ [];
    parts = so_far.parts ∙ ap (λ vs. so_far.done ++ vs) is ∙ sym (joined so_far.done v more);
    telling = λ notes columns rows h. takes notes columns rows so_far.done (so_far.telling notes columns rows h);
  }

  pub all_values_told : (all rest : List Value) (t : ReplyWriter) → ValuesTold graph all rest start t → rest ≡ []
      → (notes : Bool) (columns : Items) (rows : List (List Value)) → IsTellingRow notes graph columns rows [] start → IsTellingRow notes graph columns rows all t
  all_values_told all rest t so_far is notes columns rows h =
      subst (λ vs. IsTellingRow notes graph columns rows vs t) (sym (so_far.parts ∙ ap (λ vs. so_far.done ++ vs) is ∙ nothing_behind so_far.done)) (so_far.telling notes columns rows h)

  pub one_row_told : (all rest more : List (List Value)) (t new : ReplyWriter) (values : List Value) → RowsTold graph all rest start t → rest ≡ values ∷ more
      → ((notes : Bool) (columns : Items) (rows : List (List Value)) → IsTelling notes graph columns rows t → IsTelling notes graph columns (rows ++ values ∷ []) new)
      → RowsTold graph all more start new
  one_row_told all rest more t new values so_far is takes = record {
    done = so_far.done ++ values ∷ [];
    parts = so_far.parts ∙ ap (λ rs. so_far.done ++ rs) is ∙ sym (joined so_far.done values more);
    telling = λ notes columns h. takes notes columns so_far.done (so_far.telling notes columns h);
  }

  pub all_rows_told : (all rest : List (List Value)) (t : ReplyWriter) → RowsTold graph all rest start t → rest ≡ []
      → (notes : Bool) (columns : Items) → IsTelling notes graph columns [] start → IsTelling notes graph columns all t
  all_rows_told all rest t so_far is notes columns h =
      subst (λ rs. IsTelling notes graph columns rs t) (sym (so_far.parts ∙ ap (λ rs. so_far.done ++ rs) is ∙ nothing_behind so_far.done)) (so_far.telling notes columns h)
