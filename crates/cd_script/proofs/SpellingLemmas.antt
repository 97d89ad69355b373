-- A text that spells patches is read as these patches.
use Rattle.std.proofs.Common.{◌≡◌, ℕ, ◌+◌, ◌-◌, ◌<◌, ◌≤◌, true, false, List, [], ◌∷◌, ◌++◌, length, slice_index, Some, None, Ok, refl, ap, ◌∙◌, arith, append_assoc}
use Rattle.std.specs.Prelude.{All, filter, not, codes, nat_le}
use Rattle.std.specs.List.{join_with_byte, flat_map}
use Rattle.std.specs.Str.Lines.{lines, strip_carriage_return}
use Rattle.std.proofs.lemmas.Bool.{cond-true, cond-false, ne_eqb}
use Rattle.std.proofs.lemmas.Bool.Decides.{nat_tests}
use Rattle.std.proofs.lemmas.List.Concat.{flat_map-cons}
use Rattle.std.proofs.lemmas.List.Elements.{All-nil, All-cons, All-append, All-head, All-tail}
use Rattle.std.proofs.lemmas.List.Splits.{slice_split_none, slice_split_at}
use Rattle.cd_script.specs.PatchForm.{Edit, Patch}
use Rattle.cd_script.specs.declared.patch.Edit.TheVariants.{Put, Fill, Rebuild, Address}
use Rattle.cd_script.specs.declared.version.Version.{Version}
use Rattle.cd_script.specs.declared.version.Version.TheVariants.{One, Two}
use Rattle.cd_script.specs.Limits.{number_limit, offset_limit, patch_limit}
use Rattle.cd_script.specs.Line.{set_patch, set_if_patch, fill_patch, rebuild_patch, address_patch, patch_at, patch_by}
use Rattle.cd_script.specs.Patch.{IsEditAt, IsPatch}
use Rattle.cd_script.specs.Script.{is_passed_over, head_version, line_at, patches_from, script_from, script}
use Rattle.cd_script.specs.Spelling.{IsReadAs, has_form, version_word, edit_words, spelled_line, spelled_patch, spelling, on_lines_from}
use Rattle.cd_script.specs.Words.{words, is_space, is_word}
use Rattle.cd_script.proofs.KindLemmas.{IsPlainWord, address-kind, byte-kind, count-kind, new-kind, number-kind, offset-kind, old-kind, plain_word}
use Rattle.cd_script.proofs.VersionLemmas.{old_verb}
use Rattle.cd_script.proofs.general.Lines.{NoFeed, lines-cut}

-- ---- the forms

abbrev AreWords : List (List ℕ) → Type 0
AreWords [] = Unit {0}
AreWords (w ∷ ws) = IsPlainWord w × AreWords ws

-- the line that spells an edit has words, is not a comment, and is read as the edit
record IsSpelled (version : Version) (line b o : ℕ) (e : Edit) : Type 0 where
  pub words : AreWords (edit_words b o e)
  pub patch : is_passed_over (edit_words b o e) ≡ false
  pub reads : patch_by version line (edit_words b o e)
      ≡ Ok (record { line = line; block = b; offset = o; edit = e })

edit_words-spelled : (version : Version) (line b o : ℕ) (e : Edit) → b ≤ number_limit
    → o ≤ offset_limit → IsEditAt o e → has_form version e ≡ true → IsSpelled version line b o e
unfolding patch_by patch_at set_patch set_if_patch fill_patch rebuild_patch address_patch edit_words
edit_words-spelled version line b o (Put bytes None) hb ho fits form =
    let block = (number-kind line).spells b hb in
    let offset = (offset-kind line).spells o ho in
    let new = (new-kind line).spells bytes fits.0 in
    record {
      words = assumption (plain_word (codes "set") refl);
      patch = refl;
      reads = old_verb version line _ refl ∙ rw (block.reads, offset.reads, new.reads) refl;
    }
edit_words-spelled version line b o (Put bytes (Some old)) hb ho fits form =
    let block = (number-kind line).spells b hb in
    let offset = (offset-kind line).spells o ho in
    let new = (new-kind line).spells bytes fits.0 in
    let were = (old-kind line bytes fits.0).spells old fits.1 in
    record {
      words = assumption (plain_word (codes "set") refl, plain_word (codes "was") refl);
      patch = refl;
      reads =
          old_verb version line _ refl
          ∙ rw (block.reads, offset.reads, new.reads, were.reads) refl;
    }
edit_words-spelled version line b o (Fill n v) hb ho fits form =
    let block = (number-kind line).spells b hb in
    let offset = (offset-kind line).spells o ho in
    let count = (count-kind line).spells n (fits.0, fits.1) in
    let byte = (byte-kind line).spells v fits.2 in
    record {
      words = assumption (plain_word (codes "fill") refl);
      patch = refl;
      reads =
          old_verb version line _ refl
          ∙ rw (block.reads, offset.reads, count.reads, byte.reads) refl;
    }
edit_words-spelled version line b o Rebuild hb ho fits form =
    let block = (number-kind line).spells b hb in
    record {
      words = assumption (plain_word (codes "rebuild") refl);
      patch = refl;
      reads = old_verb version line _ refl ∙ rw (block.reads, fits) refl;
    }
edit_words-spelled Two line b o (Address bytes) hb ho fits form =
    let block = (number-kind line).spells b hb in
    let address = (address-kind line).spells bytes fits.1 in
    record {
      words = assumption (plain_word (codes "address") refl);
      patch = refl;
      reads = rw (block.reads, address.reads, fits.0) refl;
    }
edit_words-spelled One line b o (Address bytes) hb ho fits form = absurd cc

-- ---- words

not_space : (b : ℕ) → 33 ≤ b → is_space b ≡ false
not_space b h = grind (arith, nat_tests)

word_is : (w : List ℕ) → 0 < length w → is_word w ≡ true
word_is w some = ap not (ne_eqb (length w) 0 (λ e. omega arith))

words-join : (ws : List (List ℕ)) → AreWords ws → words (join_with_byte 32 ws) ≡ ws
unfolding words
words-join [] h = refl
words-join (w ∷ []) h =
    let none : All (λ b. is_space b ≡ false) w = λ k d lt. not_space _ (h.0.plain k d lt) in
    ap (filter is_word) (slice_split_none is_space w none) ∙ cond-true _ _ _ (word_is w h.0.some)
words-join (w ∷ v ∷ vs) h =
    let none : All (λ b. is_space b ≡ false) w = λ k d lt. not_space _ (h.0.plain k d lt) in
    ap (filter is_word) (slice_split_at is_space w 32 (join_with_byte 32 (v ∷ vs)) none refl)
    ∙ cond-true _ _ _ (word_is w h.0.some)
    ∙ ap (λ (l : List (List ℕ)). w ∷ l) (words-join (v ∷ vs) h.1)

-- ---- lines

join-plain : (ws : List (List ℕ)) → AreWords ws → All (λ b. 32 ≤ b) (join_with_byte 32 ws)
join-plain [] h = All-nil (λ b. 32 ≤ b)
join-plain (w ∷ []) h = λ k d lt. omega (arith, h.0.plain k d lt)
join-plain (w ∷ v ∷ vs) h =
    All-append (λ b. 32 ≤ b) w (32 ∷ join_with_byte 32 (v ∷ vs))
    (λ k d lt. omega (arith, h.0.plain k d lt))
    (All-cons (λ b. 32 ≤ b) 32 (join_with_byte 32 (v ∷ vs)) (omega arith) (join-plain (v ∷ vs) h.1))

strip-plain : (l : List ℕ) → All (λ b. 32 ≤ b) l → strip_carriage_return l ≡ l
strip-plain [] h = refl
strip-plain (b ∷ l) h =
    let last : 32 ≤ slice_index (b ∷ l) (length (b ∷ l) - 1) =
    h (length (b ∷ l) - 1) 0 (omega arith) in
    cond-false _ _ _ (ne_eqb (slice_index (b ∷ l) (length (b ∷ l) - 1)) 13 (λ e. omega arith))

lines-spelled : (ws : List (List ℕ)) (rest : List ℕ) → AreWords ws
    → lines (spelled_line ws ++ rest) ≡ join_with_byte 32 ws ∷ lines rest
lines-spelled ws rest h =
    let plain = join-plain ws h in
    let none : NoFeed (join_with_byte 32 ws) = λ k d lt.
    ne_eqb _ 10 (λ e. omega (arith, e, plain k d lt)) in
    ap lines (append_assoc (join_with_byte 32 ws) (10 ∷ []) rest)
    ∙ lines-cut (join_with_byte 32 ws) rest none
    ∙ ap (λ (l : List ℕ). l ∷ lines rest) (strip-plain (join_with_byte 32 ws) plain)

line_at-spelled : (version : Version) (line earlier : ℕ) (p : Patch)
    → IsSpelled version line p.block p.offset p.edit → earlier < patch_limit
    → line_at version line earlier (join_with_byte 32 (edit_words p.block p.offset p.edit))
    ≡ Ok (Some (record p { line = line }))
unfolding line_at
line_at-spelled version line earlier p is few =
    let found = words-join (edit_words p.block p.offset p.edit) is.words in
    let test : nat_le patch_limit earlier ≡ false = grind (arith, nat_tests) in
    rw (found, is.patch, is.reads, test) refl

-- the line that spells a patch is read as the patch
pub reads-spelled : (p : Patch) → IsPatch p → IsReadAs (spelled_patch p) p
reads-spelled p fits =
    let ws = edit_words p.block p.offset p.edit in
    let two =
    edit_words-spelled Two 0 p.block p.offset p.edit fits.block fits.offset fits.edit refl in
    record {
      line = join_with_byte 32 ws;
      one = λ rest. lines-spelled ws rest two.words;
      reads = λ version number earlier form few.
          let is =
          edit_words-spelled version number p.block p.offset p.edit fits.block fits.offset fits.edit form in
          rw (line_at-spelled version number earlier p is few) refl;
    }

patches_from-spelled : (version : Version) (line earlier : ℕ) (ps : List Patch) → All IsPatch ps
    → All (λ p. has_form version p.edit ≡ true) ps
    → earlier + length ps ≤ patch_limit
    → patches_from version line earlier (lines (flat_map spelled_patch ps))
    ≡ Ok (on_lines_from line ps)
unfolding patches_from on_lines_from
patches_from-spelled version line earlier [] each forms few = refl
patches_from-spelled version line earlier (p ∷ ps) each forms few =
    let fits = All-head IsPatch p ps each in
    let form = All-head (λ p. has_form version p.edit ≡ true) p ps forms in
    let rest = flat_map spelled_patch ps in
    let is =
    edit_words-spelled version line p.block p.offset p.edit fits.block fits.offset fits.edit form in
    let parts : lines (flat_map spelled_patch (p ∷ ps))
    ≡ join_with_byte 32 (edit_words p.block p.offset p.edit) ∷ lines rest =
    ap lines (flat_map-cons spelled_patch p ps)
    ∙ lines-spelled (edit_words p.block p.offset p.edit) rest is.words in
    let one = line_at-spelled version line earlier p is (omega arith) in
    let others =
    patches_from-spelled version (line + 1) (earlier + 1) ps (All-tail IsPatch p ps each)
    (All-tail (λ p. has_form version p.edit ≡ true) p ps forms) (omega arith) in
    ap (patches_from version line earlier) parts ∙ rw (one, others) refl

head_words : (version : Version) → AreWords (codes "cdpatch" ∷ version_word version ∷ [])
head_words One = (plain_word (codes "cdpatch") refl, (plain_word (codes "1") refl, tt))
head_words Two = (plain_word (codes "cdpatch") refl, (plain_word (codes "2") refl, tt))

head-named : (version : Version)
    → head_version (codes "cdpatch" ∷ version_word version ∷ []) ≡ Some version
head-named One = refl
head-named Two = refl

pub script-spelling : (version : Version) (ps : List Patch) → All IsPatch ps
    → All (λ p. has_form version p.edit ≡ true) ps → length ps ≤ patch_limit
    → script (spelling version ps) ≡ Ok (on_lines_from 2 ps)
unfolding script_from
script-spelling version ps each forms few =
    let head = codes "cdpatch" ∷ version_word version ∷ [] in
    let found = words-join head (head_words version) in
    let named = head-named version in
    ap (script_from 1) (lines-spelled head (flat_map spelled_patch ps) (head_words version))
    ∙ rw (found, named) (patches_from-spelled version 2 0 ps each forms (omega arith))
