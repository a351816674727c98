mod Fewer
