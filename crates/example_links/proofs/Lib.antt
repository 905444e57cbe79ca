mod TwoLists
