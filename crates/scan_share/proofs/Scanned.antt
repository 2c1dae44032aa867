-- What a capture and an update do to what a cable tells.
use Rattle.std.proofs.Common.{◌≡◌, ◌≢◌, ◌≤◌, ◌+◌, ℕ, Bool, true, false, List, [], ◌∷◌, ◌++◌, length, refl, ap, sym, subst, ◌∙◌, arith, append_assoc, Some, None}
use Rattle.std.specs.declared.option.Option.{Option}
use Rattle.std.specs.List.{sum_by}
use Rattle.base_types.specs.Counts.{raised}
use Rattle.base_types.specs.Tellings.{Told, Both}
use Rattle.base_types.proofs.TellingLaws.{takings_joined}
use Rattle.scan_bits.specs.Registers.{joined}
use Rattle.chain_model.specs.Chains.{ChainState}
use Rattle.chain_model.specs.Cycles.{Clock, after_calls, after_cycles, answers}
use Rattle.chain_model.proofs.Uncounted.{answers_counts}
use Rattle.grant_table.specs.Layouts.{LayoutShape, group_of, ir_total}
use Rattle.grant_table.specs.Kept.{AllParts}
use Rattle.scan_share.specs.PrivateChains.{entries_at}
use Rattle.scan_share.specs.Codes.{AreCodes}
use Rattle.scan_walks.specs.Walks.{with_tms, calls_for}
use Rattle.scan_share.specs.Scans.{Captures, Updates, IsWhole, IsParked, IsOpenFor, IsReadOut, code_list, codes_during, same_codes, scan_length}
use Rattle.scan_share.specs.Walks.{capture_walk, shift_out, write_walk}
use Rattle.scan_share.specs.Written.{group_widths, written}
use Rattle.scan_share.specs.Laws.{IsScan, IsGroup, own_bits, load_codes}
use Rattle.scan_share.specs.Parts.{Makes, Reads, ReadsGroup, TakesAny, ScansOut, entry_walk, entry_calls}
use Rattle.scan_share.specs.Views.{AsksAtMost, RestsWith, OpenWith, IsLoadedFor, codes_for, own_width, capture_calls, update_calls, words_of}
use Rattle.scan_share.proofs.Walked.{makes_then}
use Rattle.scan_share.proofs.Whole.{load_and_capture, capture_loaded, write_updates}
use Rattle.scan_share.proofs.Loaded.{is_loaded}
use Rattle.scan_share.proofs.Ready.{scan_is, load_long, opened}

-- ---- an entry, and then a read-out

answered_after : (calls count : ℕ) (clocks : List Clock) (out : List Bool) (a b c : Option ChainState) → Makes calls clocks a b → Both b c (λ old new. out ≡ answers (shift_out count) old)
    → Both a c (λ old new. out ≡ answers (shift_out count) (after_cycles clocks old))
answered_after calls count clocks out None None None made answered = tt
answered_after calls count clocks out None None (Some c) made answered = absurd answered
answered_after calls count clocks out None (Some b) c made answered = absurd made
answered_after calls count clocks out (Some a) None c made answered = absurd made
answered_after calls count clocks out (Some a) (Some b) None made answered = absurd answered
answered_after calls count clocks out (Some a) (Some b) (Some c) made answered =
    answered ∙ ap (answers (shift_out count)) made ∙ answers_counts (raised a.made (length clocks)) (raised a.asked calls) (shift_out count) (after_cycles clocks a)

pub scans_out : (loaded : Bool) (bits : List Bool) (a b c : Option ChainState) (x y z : Option (List Bool)) (holds holds_after : List Bool → List Bool) (ir count : ℕ)
    → length bits ≡ ir → Makes (entry_calls loaded ir) (entry_walk loaded bits) a b → TakesAny x y → Reads b c y z holds holds_after count
    → ScansOut loaded bits a c x z holds holds_after count
scans_out loaded bits a b c x y z holds holds_after ir count long entered any read =
    let entry : Makes (entry_calls loaded (length bits)) (entry_walk loaded bits) a b = subst (λ n. Makes (entry_calls loaded n) (entry_walk loaded bits) a b) (sym long) entered in
    record {
      way = any.taken;
      out = read.out;
      last = read.last;
      counted = read.counted;
      held = read.held;
      made = makes_then (entry_calls loaded (length bits)) (calls_for count + 1) (entry_walk loaded bits) (shift_out count ++ with_tms false ∷ []) a b c entry read.made;
      answered = answered_after (entry_calls loaded (length bits)) count (entry_walk loaded bits) read.out a b c entry read.answered;
      taken = takings_joined x y z any.taken (read.out ++ read.last ∷ []) any.is read.taken;
    }

-- ---- a capture

captured : (layout : LayoutShape) (group : List ℕ) (codes : List (List Bool)) (loaded : Bool) (calls : ℕ) (old : ChainState) → IsScan layout group codes → IsWhole layout old → IsParked old
    → loaded ≡ same_codes (code_list old) (codes_during layout group codes)
    → Captures layout group codes (own_bits layout group codes (answers (shift_out (scan_length layout group codes)) (after_cycles (entry_walk loaded (joined (codes_during layout group codes))) old))) old
    (after_calls calls (entry_walk loaded (joined (codes_during layout group codes)) ++ (shift_out (scan_length layout group codes) ++ with_tms false ∷ [])) old)
captured layout group codes true calls old scan whole parked same =
    capture_loaded layout group codes calls old scan whole parked (Rattle.scan_share.proofs.Reloads.same_codes_true (code_list old) (codes_during layout group codes) (sym same))
captured layout group codes false calls old scan whole parked same =
    subst (λ clocks. Captures layout group codes (own_bits layout group codes (answers (shift_out (scan_length layout group codes)) (after_cycles (load_codes layout group codes ++ capture_walk) old))) old (after_calls calls clocks old))
    (sym (append_assoc (load_codes layout group codes) capture_walk (shift_out (scan_length layout group codes) ++ with_tms false ∷ [])))
    (load_and_capture layout group codes calls old scan whole parked (sym same))

-- the cables' states before and after, and what a capture between them needs
pub captures : (layout : LayoutShape) (group : List ℕ) (codes : List (List Bool)) (words wanted : List ℕ) (same : Bool) (a c : Option ChainState) (x z : Option (List Bool)) (holds holds_after : List Bool → List Bool)
    → IsScan layout group codes → Told a (IsWhole layout) → Told a (RestsWith words) → wanted ≡ words_of (codes_during layout group codes) → (same ≡ true → words ≡ wanted) → (same ≡ false → words ≢ wanted)
    → (s : ScansOut same (joined (codes_during layout group codes)) a c x z holds holds_after (scan_length layout group codes))
    → Both a c (Captures layout group codes (own_bits layout group codes s.out))
captures layout group codes words wanted same None None x z holds holds_after scan whole rests wanted_is equal other s = tt
captures layout group codes words wanted same None (Some c) x z holds holds_after scan whole rests wanted_is equal other s = absurd s.made
captures layout group codes words wanted same (Some a) None x z holds holds_after scan whole rests wanted_is equal other s = absurd s.made
captures layout group codes words wanted same (Some a) (Some c) x z holds holds_after scan whole rests wanted_is equal other s =
    let matches = is_loaded layout group codes words wanted a same scan whole rests.codes_are wanted_is equal other in
    subst (λ out. Captures layout group codes (own_bits layout group codes out) a c) (sym s.answered)
    (subst (λ n. Captures layout group codes (own_bits layout group codes (answers (shift_out (scan_length layout group codes)) (after_cycles (entry_walk same (joined (codes_during layout group codes))) a))) a n) (sym s.made)
    (captured layout group codes same _ a scan whole rests.parked matches))

pub captures_whole : (layout : LayoutShape) (group : List ℕ) (codes : List (List Bool)) (bits : List Bool) (a c : Option ChainState) → Both a c (Captures layout group codes bits) → Told c (IsWhole layout)
captures_whole layout group codes bits a None is = tt
captures_whole layout group codes bits None (Some c) is = absurd is
captures_whole layout group codes bits (Some a) (Some c) is = is.whole

pub captures_loads : (layout : LayoutShape) (group : List ℕ) (codes : List (List Bool)) (bits : List Bool) (wanted : List ℕ) (a c : Option ChainState) → wanted ≡ words_of (codes_during layout group codes)
    → Both a c (Captures layout group codes bits) → Told c (OpenWith wanted)
captures_loads layout group codes bits wanted a None wanted_is is = tt
captures_loads layout group codes bits wanted None (Some c) wanted_is is = absurd is
captures_loads layout group codes bits wanted (Some a) (Some c) wanted_is is = record { codes_are = wanted_is ∙ ap words_of (sym is.holds.2); state = is.holds.0; scan = is.holds.1 }

calls_few : (loaded : Bool) (ir count : ℕ) → entry_calls loaded ir + (calls_for count + 1) ≤ calls_for ir + calls_for count + 3
calls_few true ir count = omega arith
calls_few false ir count = omega arith

pub captures_asked : (same : Bool) (bits : List Bool) (a c : Option ChainState) (x z : Option (List Bool)) (holds holds_after : List Bool → List Bool) (ir count : ℕ) → length bits ≡ ir
    → ScansOut same bits a c x z holds holds_after count → Both a c (AsksAtMost (calls_for ir + calls_for count + 3))
captures_asked same bits None None x z holds holds_after ir count long s = tt
captures_asked same bits None (Some c) x z holds holds_after ir count long s = absurd s.made
captures_asked same bits (Some a) None x z holds holds_after ir count long s = absurd s.made
captures_asked same bits (Some a) (Some c) x z holds holds_after ir count long s =
    let is : c.asked ≡ raised a.asked (entry_calls same (length bits) + (calls_for count + 1)) = ap (λ n. n.asked) s.made in
    let few : entry_calls same ir + (calls_for count + 1) ≤ calls_for ir + calls_for count + 3 = calls_few same ir count in
    let same_calls : entry_calls same (length bits) ≡ entry_calls same ir = ap (entry_calls same) long in
    omega (arith, is, few, same_calls)

pub captures_ahead : (layout : LayoutShape) (group : List ℕ) (codes : List (List Bool)) (same : Bool) (bits : List Bool) (a c : Option ChainState) (x z : Option (List Bool)) (holds holds_after : List Bool → List Bool)
    → (s : ScansOut same bits a c x z holds holds_after (scan_length layout group codes))
    → Both x z (λ before after. IsReadOut layout group codes before after (own_bits layout group codes s.out))
captures_ahead layout group codes same bits a c None None holds holds_after s = tt
captures_ahead layout group codes same bits a c None (Some z) holds holds_after s = absurd s.taken
captures_ahead layout group codes same bits a c (Some x) None holds holds_after s = absurd s.taken
captures_ahead layout group codes same bits a c (Some x) (Some z) holds holds_after s = record {
  way = s.way;
  read = s.out;
  last = s.last;
  taken = s.taken ∙ append_assoc s.way (s.out ++ s.last ∷ []) z ∙ ap (λ rest. s.way ++ rest) (append_assoc s.out (s.last ∷ []) z) ∙ sym (append_assoc s.way s.out (s.last ∷ z));
  whole = s.counted;
  own = refl;
}

-- ---- an update

pub updates : (layout : LayoutShape) (group : List ℕ) (codes : List (List Bool)) (bits : List Bool) (calls : ℕ) (a c : Option ChainState) → IsScan layout group codes → Told a (IsWhole layout)
    → Told a (IsOpenFor layout group codes) → length bits ≡ sum_by (λ w. w) (group_widths layout group codes)
    → Makes calls (write_walk (joined (written layout group codes bits))) a c → Both a c (Updates layout group codes bits)
updates layout group codes bits calls None None scan whole held long made = tt
updates layout group codes bits calls None (Some c) scan whole held long made = absurd made
updates layout group codes bits calls (Some a) None scan whole held long made = absurd made
updates layout group codes bits calls (Some a) (Some c) scan whole held long made =
    subst (Updates layout group codes bits a) (sym made) (write_updates layout group codes bits calls a scan whole held long)

pub updates_whole : (layout : LayoutShape) (group : List ℕ) (codes : List (List Bool)) (bits : List Bool) (a c : Option ChainState) → Both a c (Updates layout group codes bits) → Told c (IsWhole layout)
updates_whole layout group codes bits a None is = tt
updates_whole layout group codes bits None (Some c) is = absurd is
updates_whole layout group codes bits (Some a) (Some c) is = is.whole

pub updates_rest : (layout : LayoutShape) (group : List ℕ) (codes : List (List Bool)) (bits : List Bool) (words : List ℕ) (a c : Option ChainState) → Told a (OpenWith words)
    → Both a c (Updates layout group codes bits) → Told c (RestsWith words)
updates_rest layout group codes bits words a None loaded is = tt
updates_rest layout group codes bits words None (Some c) loaded is = absurd is
updates_rest layout group codes bits words (Some a) (Some c) loaded is = record { codes_are = loaded.codes_are ∙ ap words_of (sym is.codes_are); parked = is.parked }

pub makes_asked : (calls : ℕ) (clocks : List Clock) (a c : Option ChainState) → Makes calls clocks a c → Both a c (AsksAtMost calls)
makes_asked calls clocks None None made = tt
makes_asked calls clocks None (Some c) made = absurd made
makes_asked calls clocks (Some a) None made = absurd made
makes_asked calls clocks (Some a) (Some c) made = let is : c.asked ≡ raised a.asked calls = ap (λ n. n.asked) made in omega (arith, is)

-- a read-out for a group
pub reads_group : (layout : LayoutShape) (group : List ℕ) (codes : List (List Bool)) (same : Bool) (bits : List Bool) (a c : Option ChainState) (x z : Option (List Bool)) (holds holds_after : List Bool → List Bool) (count : ℕ)
    → count ≡ scan_length layout group codes → (s : ScansOut same bits a c x z holds holds_after count)
    → ((t : ScansOut same bits a c x z holds holds_after (scan_length layout group codes)) → Both a c (Captures layout group codes (own_bits layout group codes t.out)))
    → ReadsGroup layout group codes a c x z holds holds_after
reads_group layout group codes same bits a c x z holds holds_after count is s captures_by =
    let t : ScansOut same bits a c x z holds holds_after (scan_length layout group codes) = subst (λ n. ScansOut same bits a c x z holds holds_after n) is s in
    record {
      out = t.out;
      counted = t.counted;
      held = t.held;
      captures = captures_by t;
      read = captures_ahead layout group codes same bits a c x z holds holds_after t;
    }

-- all that a capture leaves
pub record CaptureFacts (layout : LayoutShape) (grant : ℕ) (words wanted : List ℕ) (a c : Option ChainState) (x z : Option (List Bool)) (holds holds_after : List Bool → List Bool) : Type 0 where
  pub reads : ReadsGroup layout (group_of layout.grants grant) (codes_for layout grant words) a c x z holds holds_after
  pub whole : Told c (IsWhole layout)
  pub held : Told c (OpenWith wanted)
  pub asked : Both a c (AsksAtMost (capture_calls layout grant words))

pub capture_facts : (layout : LayoutShape) (grant : ℕ) (words loaded wanted : List ℕ) (same : Bool) (bits : List Bool) (count : ℕ) (a c : Option ChainState) (x z : Option (List Bool)) (holds holds_after : List Bool → List Bool)
    → AllParts layout.parts → 1 ≤ length layout.parts → IsGroup layout (group_of layout.grants grant) → AreCodes (entries_at layout.parts (group_of layout.grants grant)) words
    → bits ≡ joined (codes_during layout (group_of layout.grants grant) (codes_for layout grant words)) → count ≡ scan_length layout (group_of layout.grants grant) (codes_for layout grant words)
    → IsLoadedFor layout grant words wanted → (same ≡ true → loaded ≡ wanted) → (same ≡ false → loaded ≢ wanted)
    → Told a (IsWhole layout) → Told a (RestsWith loaded) → ScansOut same bits a c x z holds holds_after count
    → CaptureFacts layout grant words wanted a c x z holds holds_after
capture_facts layout grant words loaded wanted same bits count a c x z holds holds_after parts some is are bits_are count_is wanted_is equal other whole rests scanned =
    record {
      reads = reads;
      whole = captures_whole layout group codes (own_bits layout group codes reads.out) a c reads.captures;
      held = captures_loads layout group codes (own_bits layout group codes reads.out) wanted a c wanted_is reads.captures;
      asked = subst (λ n. Both a c (AsksAtMost (calls_for (ir_total layout) + calls_for n + 3))) count_is
          (captures_asked same bits a c x z holds holds_after (ir_total layout) count (ap length bits_are ∙ load_long layout group codes scan) scanned);
    }
  where
    group : List ℕ
    group = group_of layout.grants grant

    codes : List (List Bool)
    codes = codes_for layout grant words

    scan : IsScan layout (group_of layout.grants grant) (codes_for layout grant words)
    scan = scan_is layout (group_of layout.grants grant) words parts some is are

    as_scanned : ScansOut same (joined (codes_during layout (group_of layout.grants grant) (codes_for layout grant words))) a c x z holds holds_after count
    as_scanned = subst (λ b. ScansOut same b a c x z holds holds_after count) bits_are scanned

    reads : ReadsGroup layout (group_of layout.grants grant) (codes_for layout grant words) a c x z holds holds_after
    reads = reads_group layout group codes same (joined (codes_during layout group codes)) a c x z holds holds_after count count_is as_scanned
        (λ t. captures layout group codes loaded wanted same a c x z holds holds_after scan whole rests wanted_is equal other t)

-- all that an update leaves
pub record UpdateFacts (layout : LayoutShape) (grant : ℕ) (words : List ℕ) (bits : List Bool) (loaded : List ℕ) (a c : Option ChainState) : Type 0 where
  pub updates : Both a c (Updates layout (group_of layout.grants grant) (codes_for layout grant words) bits)
  pub whole : Told c (IsWhole layout)
  pub rests : Told c (RestsWith loaded)
  pub asked : Both a c (AsksAtMost (update_calls layout grant words))

pub update_facts : (layout : LayoutShape) (grant : ℕ) (words : List ℕ) (bits all : List Bool) (loaded : List ℕ) (count : ℕ) (a c : Option ChainState)
    → AllParts layout.parts → 1 ≤ length layout.parts → IsGroup layout (group_of layout.grants grant) → AreCodes (entries_at layout.parts (group_of layout.grants grant)) words
    → all ≡ joined (written layout (group_of layout.grants grant) (codes_for layout grant words) bits) → count ≡ scan_length layout (group_of layout.grants grant) (codes_for layout grant words)
    → length bits ≡ own_width layout grant words → IsLoadedFor layout grant words loaded
    → Told a (IsWhole layout) → Told a (OpenWith loaded) → Makes (calls_for count + 2) (write_walk all) a c
    → UpdateFacts layout grant words bits loaded a c
update_facts layout grant words bits all loaded count a c parts some is are all_is count_is long loaded_is whole open_with made =
    record {
      updates = now;
      whole = updates_whole layout group codes bits a c now;
      rests = updates_rest layout group codes bits loaded a c open_with now;
      asked = subst (λ n. Both a c (AsksAtMost (calls_for n + 2))) count_is (makes_asked (calls_for count + 2) (write_walk all) a c made);
    }
  where
    group : List ℕ
    group = group_of layout.grants grant

    codes : List (List Bool)
    codes = codes_for layout grant words

    scan : IsScan layout (group_of layout.grants grant) (codes_for layout grant words)
    scan = scan_is layout (group_of layout.grants grant) words parts some is are

    now : Both a c (Updates layout (group_of layout.grants grant) (codes_for layout grant words) bits)
    now = updates layout group codes bits (calls_for count + 2) a c scan whole (opened layout group codes loaded a scan loaded_is whole open_with) long
        (subst (λ b. Makes (calls_for count + 2) (write_walk b) a c) all_is made)
