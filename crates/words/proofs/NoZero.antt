-- No byte of the words is zero, so the zeros that follow them in a lent text are told from them.
use Prim.Native.Nat.{ℕ, ◌+◌}
use Prim.Native.String.{String}
use mathlib.Core.Path.{◌≡◌, refl}
use mathlib.Core.List.{List, [], ◌∷◌, ◌++◌}
use mathlib.Core.Option.{Option, none, some}
use lib.Dec.{eqb}
use Rattle.elk.specs.Sequent.{Kind, elk, refutation}
use Rattle.format.specs.Text.{Bytes, bytes, is_digit}
use Rattle.format.specs.Tables.{Side}
use Rattle.format.specs.Written.{Each, decimal, Small}
use Rattle.format.proofs.WrittenNumbers.{decimal_digits, all_true}
use Rattle.words.specs.Told.{Named, falsum, atom, neg, conj, disj, imp, Told}
use Rattle.words.specs.Words.{formula_words, items, listing, principal_words, premise_words, side_words, kind_in}
use Rattle.words.specs.Words.{joined, pieces, sentence, sentences}
use Rattle.words.proofs.Reading.{Lacks, any_append, all_lack}
use Rattle.words.proofs.Formulas.{name_byte, Spelled}
use Rattle.words.proofs.Sentences.{Tellable}
use Rattle.words.proofs.Meanings.{meaning_no_zero}

-- no byte is zero
abbrev pub NoZero : Bytes → Type 0
NoZero bs = Lacks 0 bs

join : (bs cs : Bytes) → NoZero bs → NoZero cs → NoZero (bs ++ cs)
join bs cs h k = any_append (λ b. eqb b 0) bs cs h k

joined_shown : (ps : List Bytes) → Each NoZero ps → NoZero (joined ps)
joined_shown [] h = refl
joined_shown (p ∷ ps) h = join p (joined ps) h.0 (joined_shown ps h.1)

formula_shown : (A : Named) → Spelled A → NoZero (formula_words A)
unfolding formula_words
formula_shown falsum h = refl
formula_shown (atom name) h = joined_shown (bytes "\"" ∷ name ∷ bytes "\"" ∷ []) (refl, (all_lack name_byte 0 refl name h, (refl, tt)))
formula_shown (neg A) h = joined_shown (bytes "not " ∷ formula_words A ∷ []) (refl, (formula_shown A h, tt))
formula_shown (conj A B) h =
    joined_shown (bytes "(" ∷ formula_words A ∷ bytes " and " ∷ formula_words B ∷ bytes ")" ∷ [])
    (refl, (formula_shown A h.0, (refl, (formula_shown B h.1, (refl, tt)))))
formula_shown (disj A B) h =
    joined_shown (bytes "(" ∷ formula_words A ∷ bytes " or " ∷ formula_words B ∷ bytes ")" ∷ [])
    (refl, (formula_shown A h.0, (refl, (formula_shown B h.1, (refl, tt)))))
formula_shown (imp A B) h =
    joined_shown (bytes "(if " ∷ formula_words A ∷ bytes " then " ∷ formula_words B ∷ bytes ")" ∷ [])
    (refl, (formula_shown A h.0, (refl, (formula_shown B h.1, (refl, tt)))))

number_shown : (n : ℕ) → NoZero (decimal n)
number_shown n = all_lack is_digit 0 refl (decimal n) (all_true is_digit (decimal n) (decimal_digits n))

module _ {X : Type 0} (word : X → Bytes) (Good : X → Type 0) (word-shown : (x : X) → Good x → NoZero (word x)) where
  items_shown : (between : String) → NoZero (bytes between) → (xs : List X) → Each Good xs → NoZero (items between word xs)
  unfolding items
  items_shown between b [] h = refl
  items_shown between b (x ∷ xs) h = join (bytes between) _ b (join (word x) _ (word-shown x h.0) (items_shown between b xs h.1))

  listing_shown : (empty opening between : String) → NoZero (bytes empty) → NoZero (bytes opening) → NoZero (bytes between)
      → (xs : List X) → Each Good xs → NoZero (listing empty opening between word xs)
  unfolding listing
  listing_shown empty opening between e o b [] h = e
  listing_shown empty opening between e o b (x ∷ xs) h = join (bytes opening) _ o (join (word x) _ (word-shown x h.0) (items_shown between b xs h.1))

principal_shown : (o : Option Named) → ((A : Named) → o ≡ some A → Spelled A) → NoZero (principal_words o)
unfolding principal_words
principal_shown none h = refl
principal_shown (some A) h = joined_shown (bytes "about the formula " ∷ formula_words A ∷ []) (refl, (formula_shown A (h A refl), tt))

premises_shown : (ns : List ℕ) → Each Small ns → NoZero (premise_words ns)
premises_shown = listing_shown decimal Small (λ n h. number_shown n) _ _ _ refl refl refl

side_shown : (kind : Kind) (side : Side) (As : List Named) → Each Spelled As → NoZero (side_words kind side As)
side_shown elk Side.left = listing_shown formula_words Spelled formula_shown _ _ _ refl refl refl
side_shown elk Side.right = listing_shown formula_words Spelled formula_shown _ _ _ refl refl refl
side_shown refutation Side.left = listing_shown formula_words Spelled formula_shown _ _ _ refl refl refl
side_shown refutation Side.right = listing_shown formula_words Spelled formula_shown _ _ _ refl refl refl

sentence_shown : (n : ℕ) (t : Told) → Tellable t → NoZero (sentence n t)
unfolding sentence
sentence_shown n t h =
    joined_shown (pieces n t) (
      refl,
      (
        number_shown n,
        (
          refl,
          (
            meaning_no_zero t.rule,
            (
              refl,
              (
                principal_shown t.principal h.principal,
                (
                  refl,
                  (
                    premises_shown t.premises h.premises,
                    (refl, (side_shown (kind_in t) Side.left t.left h.left, (refl, (side_shown (kind_in t) Side.right t.right h.right, (refl, tt))))),
                  ),
                ),
              ),
            ),
          ),
        ),
      ),
    )

pub words_shown : (n : ℕ) (ts : List Told) → Each Tellable ts → NoZero (sentences n ts)
unfolding sentences
words_shown n [] h = refl
words_shown n (t ∷ ts) h = join (sentence n t) (sentences (n + 1) ts) (sentence_shown n t h.0) (words_shown (n + 1) ts h.1)
