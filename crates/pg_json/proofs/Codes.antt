-- The code in a reply's text tells the fault.
use Rattle.std.proofs.Common.{◌≡◌, ◌≢◌, ◌≤◌, ℕ, ◌+◌, ◌-◌, ◌*◌, length, Option, List, [], ◌∷◌, cond, ◌==◌, ◌||◌, nat_lt, get_or, arith, refl, sym, ap, ◌∙◌}
use Rattle.std.specs.Fmt.{digits}
use Rattle.std.specs.Prelude.{codes}
use Rattle.serde_json.specs.Data.{Data, object, Items, Members, member}
use Rattle.serde_json.specs.Written.{compact_text}
use Rattle.serde_json.proofs.OnLiterals.{serde_json_on_literals}
use Rattle.pg_meaning.specs.Codes.{code_of}
use Rattle.pg_meaning.specs.declared.fault.Fault.{Fault}
use Rattle.pg_meaning.specs.declared.fault.Fault.TheVariants.{FrameTooLong, BadRequest, UnknownToken, ReadOnly, TextTooLong, BadLexeme, BadSyntax, TooDeep, UndefinedVariable, VariableAlreadyBound, BadAggregate, BadPattern, UnknownFunction, DuplicateColumn, MissingParameter, TypeFault, Overflow, DivisionByZero, ValueTooLarge, NotStorable, MergeNull, NodeStillConnected, DeletedEntity, NegativeCount, StepQuota, ElementQuota, IdsExhausted, IndexExists, NoSuchIndex, TooManyIndexes, ReplyTooLong, TenantBusy, NoTransaction, TransactionOpen, NoSuchPage, HeldRowsQuota, OutOfMemory}
use Rattle.pg_json.specs.Laws.{RefusalsDiffer, RowsAreNoRefusals, PagesAreNoRefusals, PullsAreNoRefusals, StatusesAreNoRefusals, DoneIsNoRefusal}
use Rattle.pg_json.specs.Pages.{paged_text, pulled_text}
use Rattle.pg_json.specs.Refusals.{refusal_text, done_text}
use Rattle.pg_json.specs.Replies.{max_page, tenant_text, natural}
use Rattle.pg_json.specs.Rows.{rows_text}
use Rattle.pg_json.specs.declared.status.TenantStatus.{TenantStatus}

-- no refusal is longer than a reply may be
pub refusal_within : (f : Fault) → length (refusal_text f) ≤ max_page
unfolding serde_json_on_literals digits refusal_text
refusal_within FrameTooLong = omega arith
refusal_within BadRequest = omega arith
refusal_within UnknownToken = omega arith
refusal_within ReadOnly = omega arith
refusal_within TextTooLong = omega arith
refusal_within BadLexeme = omega arith
refusal_within BadSyntax = omega arith
refusal_within TooDeep = omega arith
refusal_within UndefinedVariable = omega arith
refusal_within VariableAlreadyBound = omega arith
refusal_within BadAggregate = omega arith
refusal_within BadPattern = omega arith
refusal_within UnknownFunction = omega arith
refusal_within DuplicateColumn = omega arith
refusal_within MissingParameter = omega arith
refusal_within TypeFault = omega arith
refusal_within Overflow = omega arith
refusal_within DivisionByZero = omega arith
refusal_within ValueTooLarge = omega arith
refusal_within NotStorable = omega arith
refusal_within MergeNull = omega arith
refusal_within NodeStillConnected = omega arith
refusal_within DeletedEntity = omega arith
refusal_within NegativeCount = omega arith
refusal_within StepQuota = omega arith
refusal_within ElementQuota = omega arith
refusal_within IdsExhausted = omega arith
refusal_within IndexExists = omega arith
refusal_within NoSuchIndex = omega arith
refusal_within TooManyIndexes = omega arith
refusal_within ReplyTooLong = omega arith
refusal_within TenantBusy = omega arith
refusal_within NoTransaction = omega arith
refusal_within TransactionOpen = omega arith
refusal_within NoSuchPage = omega arith
refusal_within HeldRowsQuota = omega arith
refusal_within OutOfMemory = omega arith

-- the number in `{"code":25,..`, of one digit or two
abbrev code_in : List ℕ → ℕ
code_in s = let one = get_or s 8 0 - 48 in cond (nat_lt (get_or s 9 0) 48 || nat_lt 57 (get_or s 9 0)) one (10 * one + (get_or s 9 0 - 48))

abbrev with_code : ℕ → List Fault → Fault
with_code n [] = OutOfMemory
with_code n (f ∷ fs) = cond (code_of f == n) f (with_code n fs)

abbrev faults : List Fault
faults = FrameTooLong ∷ BadRequest ∷ UnknownToken ∷ ReadOnly ∷ TextTooLong ∷ BadLexeme ∷ BadSyntax ∷ TooDeep ∷ UndefinedVariable ∷ VariableAlreadyBound ∷ BadAggregate ∷ BadPattern ∷ UnknownFunction ∷ DuplicateColumn ∷ MissingParameter ∷ TypeFault ∷ Overflow ∷ DivisionByZero ∷ ValueTooLarge ∷ NotStorable ∷ MergeNull ∷ NodeStillConnected ∷ DeletedEntity ∷ NegativeCount ∷ StepQuota ∷ ElementQuota ∷ IdsExhausted ∷ IndexExists ∷ NoSuchIndex ∷ TooManyIndexes ∷ ReplyTooLong ∷ TenantBusy ∷ NoTransaction ∷ TransactionOpen ∷ NoSuchPage ∷ HeldRowsQuota ∷ OutOfMemory ∷ []

abbrev fault_in : List ℕ → Fault
fault_in s = with_code (code_in s) faults

fault_in-refusal : (f : Fault) → fault_in (refusal_text f) ≡ f
unfolding serde_json_on_literals digits refusal_text
fault_in-refusal FrameTooLong = refl
fault_in-refusal BadRequest = refl
fault_in-refusal UnknownToken = refl
fault_in-refusal ReadOnly = refl
fault_in-refusal TextTooLong = refl
fault_in-refusal BadLexeme = refl
fault_in-refusal BadSyntax = refl
fault_in-refusal TooDeep = refl
fault_in-refusal UndefinedVariable = refl
fault_in-refusal VariableAlreadyBound = refl
fault_in-refusal BadAggregate = refl
fault_in-refusal BadPattern = refl
fault_in-refusal UnknownFunction = refl
fault_in-refusal DuplicateColumn = refl
fault_in-refusal MissingParameter = refl
fault_in-refusal TypeFault = refl
fault_in-refusal Overflow = refl
fault_in-refusal DivisionByZero = refl
fault_in-refusal ValueTooLarge = refl
fault_in-refusal NotStorable = refl
fault_in-refusal MergeNull = refl
fault_in-refusal NodeStillConnected = refl
fault_in-refusal DeletedEntity = refl
fault_in-refusal NegativeCount = refl
fault_in-refusal StepQuota = refl
fault_in-refusal ElementQuota = refl
fault_in-refusal IdsExhausted = refl
fault_in-refusal IndexExists = refl
fault_in-refusal NoSuchIndex = refl
fault_in-refusal TooManyIndexes = refl
fault_in-refusal ReplyTooLong = refl
fault_in-refusal TenantBusy = refl
fault_in-refusal NoTransaction = refl
fault_in-refusal TransactionOpen = refl
fault_in-refusal NoSuchPage = refl
fault_in-refusal HeldRowsQuota = refl
fault_in-refusal OutOfMemory = refl

pub refusals_differ : RefusalsDiffer
refusals_differ f g e = sym (fault_in-refusal f) ∙ ap fault_in e ∙ fault_in-refusal g

code_in-rows : (columns : Items) (rows : List Items) (steps : ℕ) → code_in (rows_text columns rows steps) ≡ 0
unfolding serde_json_on_literals digits rows_text
code_in-rows columns rows steps = refl

code_in-paged : (columns : Items) (page : Option ℕ) (rows : List (List ℕ)) (steps : ℕ) → code_in (paged_text columns page rows steps) ≡ 0
unfolding serde_json_on_literals digits paged_text
code_in-paged columns page rows steps = refl

code_in-pulled : (page : Option ℕ) (rows : List (List ℕ)) → code_in (pulled_text page rows) ≡ 0
unfolding serde_json_on_literals digits pulled_text
code_in-pulled page rows = refl

code_in-status : (s : TenantStatus) → code_in (tenant_text s) ≡ 0
unfolding serde_json_on_literals digits tenant_text
code_in-status s = refl

code_in-done : code_in done_text ≡ 0
unfolding serde_json_on_literals digits done_text
code_in-done = refl

code_in-last : code_in (refusal_text OutOfMemory) ≡ 99
unfolding serde_json_on_literals digits refusal_text
code_in-last = refl

apart : (n : ℕ) → n ≡ 0 → n ≡ 99 → ⊥
apart n e f = omega arith

no_refusal : (s : List ℕ) (f : Fault) → code_in s ≡ 0 → s ≢ refusal_text f
no_refusal s f none e =
    let last : f ≡ OutOfMemory = sym (fault_in-refusal f) ∙ ap fault_in (sym e) ∙ ap (λ n. with_code n faults) none in
    apart (code_in s) none (ap code_in (e ∙ ap refusal_text last) ∙ code_in-last)

pub rows_are_no_refusals : RowsAreNoRefusals
rows_are_no_refusals columns rows steps f = no_refusal (rows_text columns rows steps) f (code_in-rows columns rows steps)

pub paged_is_no_refusal : PagesAreNoRefusals
paged_is_no_refusal columns page rows steps f = no_refusal (paged_text columns page rows steps) f (code_in-paged columns page rows steps)

pub pulled_is_no_refusal : PullsAreNoRefusals
pulled_is_no_refusal page rows f = no_refusal (pulled_text page rows) f (code_in-pulled page rows)

pub statuses_are_no_refusals : StatusesAreNoRefusals
statuses_are_no_refusals s f = no_refusal (tenant_text s) f (code_in-status s)

pub done_is_no_refusal : DoneIsNoRefusal
done_is_no_refusal f = no_refusal done_text f code_in-done

code_in-answer : (k : List ℕ) (d : Data) (ms : Members) → code_in (compact_text (object (member (codes "code") (natural 0) (member k d ms)))) ≡ 0
unfolding serde_json_on_literals digits
code_in-answer k d ms = refl

-- the same of an answer as data, whatever stands behind its code
pub answer_is_no_refusal : (k : List ℕ) (d : Data) (ms : Members) (f : Fault) → compact_text (object (member (codes "code") (natural 0) (member k d ms))) ≢ refusal_text f
answer_is_no_refusal k d ms f = no_refusal _ f (code_in-answer k d ms)
