-- What holds of each value that may be read: it goes through each way to read.
use Rattle.std.proofs.Common.{◌≡◌, ℕ, suc, ◌+◌, ◌≤◌, Bool, true, false, if◌then◌else◌, List, [], ◌∷◌, ◌++◌, length, refl, ap, subst, arith}
use Rattle.std.specs.Prelude.{⊤, Ok, Err, Option, Some, None, nat_le, codes, decimal, option_to_list}
use Rattle.std.specs.List.{AllByRecursion}
use Rattle.std.proofs.lemmas.Bool.Decides.{nat_tests}
use Rattle.serde_json.specs.Data.{Data, Items, no_items, item}
use Rattle.serde_json.specs.Find.{get}
use Rattle.json_elements.specs.declared.refusal.Cause.TheVariants.{Missing, Limit, Shape}
use Rattle.json_elements.specs.Reading.{Reading, Refusal, refusal, below, ◌>>=◌, refuse, inside, at_child}
use Rattle.json_elements.specs.Attributes.{needed, needed_in, with_default, default_in}
use Rattle.json_elements.specs.Elements.{items_count, at_most, each, named, named_in, lone}
use Rattle.json_elements.specs.KnownChildren.{Reads, known_children}

-- each value that may be read is so
abbrev pub Yields : {A : Type 0} → (A → Type 0) → Reading A → Type 0
Yields {A} P r = (x : A) → r ≡ Ok x → P x

ok_same : {A : Type 0} {x y : A} → ◌≡◌ {A = Reading A} (Ok x) (Ok y) → x ≡ y
ok_same h = cc

pub ok_yields : {A : Type 0} (P : A → Type 0) (x : A) → P x → Yields P (Ok x)
ok_yields P x p y h = subst P (ok_same h) p

pub err_yields : {A : Type 0} (P : A → Type 0) (e : Refusal) → Yields P (Err e)
err_yields P e x h = cc

-- one reading after another
pub then_yields : {A B : Type 0} (P : B → Type 0) (r : Reading A) (f : A → Reading B) → ((a : A) → r ≡ Ok a → Yields P (f a)) → Yields P (r >>= f)
then_yields P (Ok a) f h = h a refl
then_yields P (Err e) f h = err_yields P e

pub inside_yields : {A : Type 0} (P : A → Type 0) (step : List ℕ) (r : Reading A) → Yields P r → Yields P (inside step r)
inside_yields P step (Ok x) h = h
inside_yields P step (Err e) h = err_yields P (below step e)

needed_found : {A : Type 0} (P : A → Type 0) (form : Data → Reading A) (o : Option Data) → ((d : Data) → Yields P (form d)) → Yields P (needed_in form o)
needed_found P form None h = err_yields P (refusal Missing [])
needed_found P form (Some d) h = h d

pub needed_yields : {A : Type 0} (P : A → Type 0) (form : Data → Reading A) (key : List ℕ) (d : Data) → ((d : Data) → Yields P (form d)) → Yields P (needed form key d)
needed_yields P form key d h = inside_yields P key (needed_in form (get key d)) (needed_found P form (get key d) h)

default_found : {A : Type 0} (P : A → Type 0) (x : A) (form : Data → Reading A) (o : Option Data) → P x → ((d : Data) → Yields P (form d)) → Yields P (default_in x form o)
default_found P x form None p h = ok_yields P x p
default_found P x form (Some d) p h = h d

pub default_yields : {A : Type 0} (P : A → Type 0) (x : A) (form : Data → Reading A) (key : List ℕ) (d : Data) → P x → ((d : Data) → Yields P (form d)) → Yields P (with_default x form key d)
default_yields P x form key d p h = inside_yields P key (default_in x form (get key d)) (default_found P x form (get key d) p h)

-- every child that is read is so
pub each_yields : {A : Type 0} (P : A → Type 0) (by : Data → Reading A) (i : ℕ) (ds : Items) → ((d : Data) → Yields P (by d)) → Yields (AllByRecursion P) (each by i ds)
each_yields {A} P by i no_items h = ok_yields (AllByRecursion P) [] tt
each_yields {A} P by i (item d ds) h =
    then_yields (AllByRecursion P) (at_child i (by d)) (λ first. each by (i + 1) ds >>= (λ others. Ok (first ∷ others))) (λ x at.
    then_yields (AllByRecursion P) (each by (i + 1) ds) (λ others. Ok (x ∷ others)) (λ xs rest.
    ok_yields (AllByRecursion P) (x ∷ xs) (inside_yields P (codes "content") (inside (decimal i) (by d)) (inside_yields P (decimal i) (by d) (h d)) x at, each_yields P by (i + 1) ds h xs rest)))

-- and there are as many of them
pub each_count : {A : Type 0} (by : Data → Reading A) (i : ℕ) (ds : Items) → Yields (λ xs. length xs ≡ items_count ds) (each by i ds)
each_count {A} by i no_items = ok_yields (λ xs. length xs ≡ 0) [] refl
each_count {A} by i (item d ds) =
    then_yields (λ xs. length xs ≡ suc (items_count ds)) (at_child i (by d)) (λ first. each by (i + 1) ds >>= (λ others. Ok (first ∷ others))) (λ x at.
    then_yields (λ xs. length xs ≡ suc (items_count ds)) (each by (i + 1) ds) (λ others. Ok (x ∷ others)) (λ xs rest.
    ok_yields (λ xs. length xs ≡ suc (items_count ds)) (x ∷ xs) (ap suc (each_count by (i + 1) ds xs rest))))

abbrev pub Fit : ℕ → ℕ → Unit {0} → Type 0
Fit most n u = n ≤ most

within_most : (most n : ℕ) (b : Bool) → nat_le n most ≡ b → Yields (Fit most n) (if b then Ok tt else refuse Limit)
within_most most n true h = ok_yields (Fit most n) tt (grind (arith, nat_tests))
within_most most n false h = err_yields (Fit most n) (refusal Limit [])

pub at_most_yields : (most n : ℕ) → Yields (Fit most n) (at_most most n)
at_most_yields most n = within_most most n (nat_le n most) refl

-- ---- children by their names

named_found : {A : Type 0} (P : A → Type 0) (by : List ℕ → Data → Reading A) (o : Option (List ℕ × Data)) → ((name : List ℕ) (d : Data) → Yields P (by name d)) → Yields P (named_in by o)
named_found P by None h = err_yields P (refusal Shape [])
named_found P by (Some p) h = h p.0 p.1

pub named_yields : {A : Type 0} (P : A → Type 0) (by : List ℕ → Data → Reading A) (d : Data) → ((name : List ℕ) (inner : Data) → Yields P (by name inner)) → Yields P (named by d)
named_yields P by d h = named_found P by (lone d) h

-- ---- known children

-- it holds of what was read, if something was
abbrev pub IfRead : {A : Type 0} → (A → Type 0) → Option A → Type 0
IfRead P None = ⊤
IfRead P (Some x) = P x

pub all_append : {A : Type 0} (P : A → Type 0) (xs ys : List A) → AllByRecursion P xs → AllByRecursion P ys → AllByRecursion P (xs ++ ys)
all_append P [] ys a b = b
all_append P (x ∷ xs) ys a b = (a.0, all_append P xs ys a.1 b)

one_read : {A : Type 0} (P : A → Type 0) (o : Option A) → IfRead P o → AllByRecursion P (option_to_list o)
one_read P None h = tt
one_read P (Some x) h = (h, tt)

-- each child that is read is so, where each reading of one is
pub children_yield : {A : Type 0} (P : A → Type 0) (by : Reads A) → ((before : List A) (name : List ℕ) (d : Data) → Yields (IfRead P) (by before name d)) → (before : List A) → AllByRecursion P before → (i : ℕ) (ds : Items) →
    Yields (AllByRecursion P) (known_children by before i ds)
children_yield P by each before all i no_items = ok_yields (AllByRecursion P) before all
children_yield P by each before all i (item d ds) =
    then_yields (AllByRecursion P) (at_child i (named (by before) d)) (λ found. known_children by (before ++ option_to_list found) (i + 1) ds) (λ found at.
    children_yield P by each (before ++ option_to_list found)
    (all_append P before (option_to_list found) all
    (one_read P found
    (inside_yields (IfRead P) (codes "content") (inside (decimal i) (named (by before) d))
    (inside_yields (IfRead P) (decimal i) (named (by before) d) (named_yields (IfRead P) (by before) d (each before))) found at)))
    (i + 1) ds)
